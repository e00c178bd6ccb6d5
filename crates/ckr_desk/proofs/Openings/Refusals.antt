-- The runs one after another, and the first whose entry is refused.
use Rattle.std.proofs.Common.{◌≡◌, ◌≤◌, ◌+◌, ℕ, zero, suc, List, [], ◌∷◌, drop, length, slice_get, map, refl, ap, sym, ◌∙◌, subst, Option, None, Some, arith}
use Rattle.std.specs.Option.{option_map_or}
use Rattle.std.proofs.lemmas.List.{drop_all, length-map}
use Rattle.std.proofs.lemmas.Option.{get_or_from_slice_get, same_Some}
use Rattle.ckr_base.proofs.Options.{some-not-none, some-one}
use Rattle.ckr_base.proofs.Sequences.{drop-at, get-inside}
use Rattle.ckr_desk_turn.specs.Queue.{AreNumbered}
use Rattle.ckr_points.specs.Rows.{RunRow, TablesModel, run_of}
use Rattle.ckr_points.specs.declared.run.Run.{Run}
use Rattle.ckr_desk_refines.specs.Tables.View.{line_of}
use Rattle.ckr_desk_refines.specs.DiskEntries.EntryRefusal.{first_fault}
use Rattle.ckr_volumes.specs.declared.layout.Layout.{Layout}
use Rattle.ckr_desk.specs.Entries.{bad_entry, run_refusal}

-- ---- the first that is refused

at-place : (rows : List RunRow) (place : ℕ) (row : RunRow) → slice_get rows place ≡ Some row → drop place rows ≡ row ∷ drop (place + 1) rows
at-place rows place row at = drop-at rows place row (get-inside row rows place at) (sym (get_or_from_slice_get rows place row row at))

module _ (fault : RunRow → Option ℕ) (rows : List RunRow) (place : ℕ) (row : RunRow) (at : slice_get rows place ≡ Some row) where
  first-by : (found : Option ℕ) → fault row ≡ found → first_fault fault (drop place rows) ≡ option_map_or (λ offset. Some (row.number, offset)) found (first_fault fault (drop (place + 1) rows))
  first-by found is =
      ap (first_fault fault) (at-place rows place row at)
      ∙ ap (λ (o : Option ℕ). option_map_or (λ offset. Some (row.number, offset)) o (first_fault fault (drop (place + 1) rows))) is

  pub first-later : fault row ≡ None → first_fault fault (drop (place + 1) rows) ≡ first_fault fault (drop place rows)
  first-later none = sym (first-by None none)

  pub first-here : (offset : ℕ) → fault row ≡ Some offset → first_fault fault (drop place rows) ≡ Some (row.number, offset)
  first-here offset is = first-by (Some offset) is

-- runs are numbered by their places
numbered-at : (first : ℕ) (rows : List RunRow) (place : ℕ) (row : RunRow) → AreNumbered first rows → slice_get rows place ≡ Some row → row.number ≡ place + first
numbered-at first [] place row numbered at = absurd (some-not-none row (sym at))
numbered-at first (one ∷ rows) zero row numbered at = ap (λ (r : RunRow). r.number) (sym (same_Some one row at)) ∙ numbered.0 ∙ (let e : first ≡ 0 + first = omega arith in e)
numbered-at first (one ∷ rows) (suc place) row numbered at = numbered-at (suc first) rows place row numbered.1 at ∙ (let e : place + suc first ≡ suc place + first = omega arith in e)

-- a line of the runs is that of its row
pub line-at : {A B : Type 0} (line : A → B) (rows : List A) (place : ℕ) (its : B) → slice_get (map line rows) place ≡ Some its → (row : A) × (slice_get rows place ≡ Some row) × (line row ≡ its)
line-at line [] place its at = absurd (some-not-none its (sym at))
line-at line (first ∷ rest) zero its at = (first, refl, same_Some (line first) its at)
line-at line (first ∷ rest) (suc place) its at = line-at line rest place its at

-- ---- the runs one after another

module _ (layout : Layout) (tables : TablesModel) (image : List ℕ) where
  -- what is refused from a place of the runs on
  unfoldable pub bad_from : ℕ → Option (ℕ × ℕ)
  bad_from place = first_fault (run_refusal layout tables image) (drop place tables.runs)

  pub bad-all : bad_from 0 ≡ bad_entry layout tables image
  unfolding bad_from bad_entry
  bad-all = refl

  pub bad-end : (place : ℕ) (lines : List Run) → lines ≡ map line_of tables.runs → length lines ≤ place → bad_from place ≡ None
  unfolding bad_from
  bad-end place lines are past =
      ap (first_fault (run_refusal layout tables image))
      (drop_all place tables.runs (let same : length lines ≡ length tables.runs = ap length are ∙ length-map tables.runs line_of in omega (arith, same, past)))

  module _ (place : ℕ) (run : Run) (lines : List Run) (are : lines ≡ map line_of tables.runs) (at : slice_get lines place ≡ Some run) (numbered : AreNumbered 1 tables.runs) where
    its : (row : RunRow) × (slice_get tables.runs place ≡ Some row) × (line_of row ≡ run)
    its = line-at line_of tables.runs place run (ap (λ (all : List Run). slice_get all place) (sym are) ∙ at)

    known : run_of tables its.0.number ≡ Some its.0
    known = ap (run_of tables) (numbered-at 1 tables.runs place its.0 numbered its.1 ∙ (let e : place + 1 ≡ suc place = omega arith in e)) ∙ its.1

    -- this run isn't refused
    pub bad-later : ((row : RunRow) → run_of tables row.number ≡ Some row → run ≡ line_of row → None ≡ run_refusal layout tables image row) → bad_from (place + 1) ≡ bad_from place
    unfolding bad_from
    bad-later so = first-later (run_refusal layout tables image) tables.runs place its.0 its.1 (sym (so its.0 known (sym its.2)))

    -- it is
    pub bad-here : (offset : ℕ) → ((row : RunRow) → run_of tables row.number ≡ Some row → run ≡ line_of row → Some offset ≡ run_refusal layout tables image row) → bad_from place ≡ Some (run.number, offset)
    unfolding bad_from
    bad-here offset so =
        first-here (run_refusal layout tables image) tables.runs place its.0 its.1 offset (sym (so its.0 known (sym its.2)))
        ∙ ap (λ (line : Run). Some (line.number, offset)) its.2

    -- what was found of this run is found of the row of its number
    pub found-of : (P : RunRow → Type 0) → ((row : RunRow) → run_of tables row.number ≡ Some row → run ≡ line_of row → P row) → (row : RunRow) → run_of tables (suc place) ≡ Some row → (row.number ≡ suc place) × P row
    found-of P so row found =
        let same : its.0 ≡ row = some-one its.0 row (slice_get tables.runs place) its.1 found in
        subst (λ (r : RunRow). (r.number ≡ suc place) × P r) same
        (numbered-at 1 tables.runs place its.0 numbered its.1 ∙ (let e : place + 1 ≡ suc place = omega arith in e), so its.0 known (sym its.2))

    pub row-of : (row : RunRow) × (run_of tables row.number ≡ Some row) × (run ≡ line_of row) × (row.number ≡ suc place)
    row-of = (its.0, known, sym its.2, numbered-at 1 tables.runs place its.0 numbered its.1 ∙ (let e : place + 1 ≡ suc place = omega arith in e))
