-- No data set of a library has an empty name.
-- none-seen-unnamed      nor in the tables
use Rattle.std.proofs.Common.{◌≡◌, [], refl, ap, sym, ◌∙◌, Option, Some, None}
use Rattle.std.specs.Option.{option_map}
use Rattle.ckr_base.proofs.Options.{some-not-none}
use Rattle.ckr_library.specs.Catalog.{Holding}
use Rattle.ckr_library.specs.NameMaps.{Named, entry_at}
use Rattle.ckr_library.proofs.Named.{at-viewed}
use Rattle.ckr_points.specs.Rows.{TableSet, holding_of}
use Rattle.ckr_points_tables.specs.View.{seen_by}

pub none-seen-unnamed : (sets : Named Holding) (tables : Named TableSet) → sets ≡ seen_by holding_of tables → entry_at sets [] ≡ None → entry_at tables [] ≡ None
none-seen-unnamed sets tables is none = by (entry_at tables []) (sym (at-viewed holding_of tables []) ∙ ap (λ all. entry_at all []) (sym is) ∙ none)
  where
    by : (found : Option TableSet) → option_map holding_of found ≡ None → found ≡ None
    by None e = refl
    by (Some table) e = absurd (some-not-none _ e)
