-- The data sets of the library are those of the tables.
use Rattle.std.proofs.Common.{◌≡◌, sym, ap, subst, ◌∙◌, refl, Option, Some, None}
use Rattle.std.specs.Option.{option_map}
use Rattle.std.proofs.lemmas.Option.{same_Some}
use Rattle.ckr_base.proofs.Options.{some-not-none}
use Rattle.ckr_library.specs.declared.sets.DataSet.{DataSet}
use Rattle.ckr_library.specs.Catalog.{Catalog, Holding, set_of}
use Rattle.ckr_library.specs.NameMaps.{EachEntry, Name, Named, entry_at}
use Rattle.ckr_library.proofs.Named.{at-viewed, each-at}
use Rattle.ckr_points.specs.Rows.{TableSet, holding_of}
use Rattle.ckr_points_tables.specs.View.{seen_by}
use Rattle.ckr_volumes.specs.declared.layout.Layout.{Layout}
use Rattle.ckr_volumes.specs.Layouts.{StandsIn}

-- what the library has under a name, the tables have
pub record IsInTables (sets : Named TableSet) (name : Name) (found : DataSet) : Type 0 where
  pub table : TableSet
  pub at : entry_at sets name ≡ Some table
  pub same : found ≡ table.set

pub in-tables : (catalog : Catalog) (sets : Named TableSet) (name : Name) (found : DataSet) → catalog.sets ≡ seen_by holding_of sets → set_of catalog name ≡ Some found → IsInTables sets name found
in-tables catalog sets name found seen is = by (entry_at sets name) refl
  where
    its : (entry : Option TableSet) → entry_at sets name ≡ entry → set_of catalog name ≡ option_map (λ (held : Holding). held.set) (option_map holding_of entry)
    its entry at =
        ap (λ all. option_map (λ (held : Holding). held.set) (entry_at all name)) seen
        ∙ ap (option_map (λ (held : Holding). held.set)) (at-viewed holding_of sets name ∙ ap (option_map holding_of) at)

    by : (entry : Option TableSet) → entry_at sets name ≡ entry → IsInTables sets name found
    by None at = absurd (some-not-none found (sym is ∙ its None at))
    by (Some table) at = record { table = table; at = at; same = same_Some found table.set (sym is ∙ its (Some table) at) }

pub set-stands : (layout : Layout) (catalog : Catalog) (sets : Named TableSet) (name : Name) (found : DataSet) → catalog.sets ≡ seen_by holding_of sets → set_of catalog name ≡ Some found
    → EachEntry (λ (table : TableSet). StandsIn layout table.set) sets → StandsIn layout found
set-stands layout catalog sets name found seen is stand =
    let there = in-tables catalog sets name found seen is in
    subst (StandsIn layout) (sym there.same) (each-at (λ (table : TableSet). StandsIn layout table.set) sets stand name there.table there.at)
