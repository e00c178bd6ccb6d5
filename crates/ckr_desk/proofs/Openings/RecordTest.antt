-- Whether the tables have the record that an event tells, by what is found in memory.
use Rattle.std.proofs.Common.{◌≡◌, ℕ, true, false, List, Option, Some, None, refl, sym, ap, ◌∙◌}
use Rattle.std.specs.Option.{is_some, option_map, option_map_or}
use Rattle.std.proofs.lemmas.Bool.{false≢true}
use Rattle.arrayvec.specs.ArrayVec.{ArrayVec}
use Rattle.ckr_events.specs.declared.event.Event.{Event}
use Rattle.ckr_events.specs.declared.event.Event.TheVariants.{Rewritten}
use Rattle.ckr_desk_refines.specs.Memory.Rewrite.{updated_by}
use Rattle.ckr_library.specs.Catalog.{Catalog, Holding, set_of}
use Rattle.ckr_library.specs.declared.sets.DataSet.{DataSet}
use Rattle.ckr_library.specs.NameMaps.{Name, entry_at}
use Rattle.ckr_library.proofs.Named.{at-viewed}
use Rattle.ckr_points.specs.Rows.{RunRow, TableSet, TablesModel, holding_of, run_of}
use Rattle.ckr_desk_refines.specs.Tables.View.{seen_by}
use Rattle.ckr_desk.specs.Replay.{fits_in, fits_name, fits_row, fits_set, has_record}

viewed-fits : (place : ℕ) (image : List ℕ) (entry : Option TableSet)
    → option_map_or (fits_set place image) entry false ≡ option_map_or (fits_in place image) (option_map (λ (held : Holding). held.set) (option_map holding_of entry)) false
viewed-fits place image None = refl
viewed-fits place image (Some table) = refl

pub record-by : (tables : TablesModel) (catalog : Catalog) (event : Event) (job taken writes : ℕ) (lengths : ArrayVec ℕ) (place : ℕ) (image : List ℕ) (name : Name) (found : Option DataSet)
    → event ≡ Rewritten job taken writes lengths place image → is_some (run_of tables job) ≡ true → ((row : RunRow) → run_of tables job ≡ Some row → Some name ≡ updated_by row)
    → catalog.sets ≡ seen_by holding_of tables.sets → found ≡ set_of catalog name → has_record tables event ≡ option_map_or (fits_in place image) found false
record-by tables catalog event job taken writes lengths place image name found is there updated seen found_is =
    ap (has_record tables) is
    ∙ by (run_of tables job) refl there
    ∙ viewed-fits place image (entry_at tables.sets name)
    ∙ ap (λ o. option_map_or (fits_in place image) o false)
    (ap (option_map (λ (held : Holding). held.set)) (sym (at-viewed holding_of tables.sets name))
    ∙ ap (λ all. option_map (λ (held : Holding). held.set) (entry_at all name)) (sym seen)
    ∙ sym found_is)
  where
    by : (row : Option RunRow) → run_of tables job ≡ row → is_some row ≡ true → option_map_or (fits_row tables place image) row false ≡ option_map_or (fits_set place image) (entry_at tables.sets name) false
    by None run there = absurd (false≢true there)
    by (Some row) run there = ap (λ o. option_map_or (fits_name tables place image) o false) (sym (updated row run))
