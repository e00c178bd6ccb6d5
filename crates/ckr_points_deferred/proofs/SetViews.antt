-- The data sets of the tables, by name.
use Rattle.std.proofs.Common.{◌≡◌, refl, ap, ◌∙◌, Some, None, Option}
use Rattle.std.specs.Option.{option_map}
use Rattle.ckr_library.specs.Catalog.{Holding}
use Rattle.ckr_library.specs.NameMaps.{Name, Named, entry_at}
use Rattle.ckr_library.proofs.Named.{at-viewed}
use Rattle.ckr_points.specs.Rows.{TableSet, holding_of}
use Rattle.ckr_points_tables.specs.View.{seen_by}

-- the data set of a name, as the tables see it
pub set-seen : (sets : Named Holding) (tables : Named TableSet) → sets ≡ seen_by holding_of tables → (name : Name) → option_map (λ (holding : Holding). holding.set) (entry_at sets name) ≡ option_map (λ (table : TableSet). table.set) (entry_at tables name)
set-seen sets tables is name = ap (λ all. option_map (λ (holding : Holding). holding.set) (entry_at all name)) is ∙ ap (option_map (λ (holding : Holding). holding.set)) (at-viewed holding_of tables name) ∙ by (entry_at tables name)
  where
    by : (found : Option TableSet) → option_map (λ (holding : Holding). holding.set) (option_map holding_of found) ≡ option_map (λ (table : TableSet). table.set) found
    by None = refl
    by (Some table) = refl
