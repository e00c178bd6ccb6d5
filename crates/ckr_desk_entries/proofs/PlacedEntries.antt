-- Where each entry has its places in its data set, it is refused by its bytes alone.
use Rattle.std.proofs.Common.{◌≡◌, ℕ, suc, Bool, true, cond, List, [], ◌∷◌, slice_get, refl, ap, ◌∙◌, Option, None, Some, option_and_then}
use Rattle.std.specs.Option.{option_map_or}
use Rattle.ckr_desk_entries.specs.EntryRefusal.{effect_fault, entry_refusal, first_fault, run_fault}
use Rattle.ckr_points.specs.Office.{is_holder}
use Rattle.ckr_points.specs.Rows.{EffectPoint, RunRow, TablesModel}
use Rattle.ckr_volumes.specs.declared.layout.Layout.{Layout}
use Rattle.ckr_desk_entries.specs.Entries.{ArePlaced, bad_entry, effect_refusal, is_placed, run_refusal}

run-same : (layout : Layout) (tables : TablesModel) (image : List ℕ) (row : RunRow) → ((effect : EffectPoint) → row.in_effect ≡ Some effect → is_placed tables effect ≡ true)
    → run_refusal layout tables image row ≡ run_fault layout tables image row
run-same layout tables image row placed = ap (λ (o : Option ℕ). cond (is_holder row.state) o None) (by row.in_effect placed)
  where
    by : (found : Option EffectPoint) → ((effect : EffectPoint) → found ≡ Some effect → is_placed tables effect ≡ true)
        → option_and_then (effect_refusal layout tables image row) found ≡ option_and_then (effect_fault layout tables image row) found
    by None placed = refl
    by (Some effect) placed = ap (λ (b : Bool). cond b (effect_fault layout tables image row effect) (Some 0)) (placed effect refl)

first-same : (one other : RunRow → Option ℕ) (rows : List RunRow) → ((place : ℕ) (row : RunRow) → slice_get rows place ≡ Some row → one row ≡ other row) → first_fault one rows ≡ first_fault other rows
first-same one other [] same = refl
first-same one other (row ∷ rows) same =
    ap (λ (o : Option ℕ). option_map_or (λ offset. Some (row.number, offset)) o (first_fault one rows)) (same 0 row refl)
    ∙ ap (λ (o : Option (ℕ × ℕ)). option_map_or (λ offset. Some (row.number, offset)) (other row) o) (first-same one other rows (λ place it at. same (suc place) it at))

-- by its bytes alone, where each has its places
pub placed-same : (layout : Layout) (tables : TablesModel) (image : List ℕ) → ArePlaced tables → bad_entry layout tables image ≡ entry_refusal layout tables image
unfolding bad_entry
placed-same layout tables image placed =
    first-same (run_refusal layout tables image) (run_fault layout tables image) tables.runs (λ place row at. run-same layout tables image row (λ effect is. placed (suc place) row effect at is))
