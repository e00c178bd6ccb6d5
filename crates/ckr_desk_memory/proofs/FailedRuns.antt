-- The runs that are within a step, as far as a search has come.
use Rattle.std.proofs.Common.{◌≡◌, ◌+◌, ◌<◌, ℕ, zero, suc, Bool, true, false, cond, List, [], ◌∷◌, ◌++◌, filter, map, take, length, slice_get, slice_index_or, refl, ap, sym, ◌∙◌, subst, Option, None, Some}
use Rattle.std.proofs.lemmas.Option.{same_Some, slice_get-map}
use Rattle.std.specs.Option.{option_map}
use Rattle.ckr_base.proofs.Numbers.{plus-one}
use Rattle.ckr_base.proofs.Options.{some-not-none}
use Rattle.ckr_base.proofs.Sequences.{get-from}
use Rattle.ckr_points.specs.Rows.{RunRow, TablesModel, run_of}
use Rattle.ckr_points.specs.declared.run.Run.{Run}
use Rattle.ckr_points_tables.specs.View.{line_of}
use Rattle.ckr_desk_turn.specs.declared.failed_run.FailedRun.{FailedRun}
use Rattle.ckr_desk_turn.specs.Desk.{is_running}
use Rattle.ckr_desk_turn.specs.Queue.{AreNumbered}
use Rattle.ckr_desk_turn.proofs.Queue.Events.{run_number}

-- a run that was running, for which the operator wasn't asked yet
abbrev pub mark_of : RunRow → FailedRun
mark_of row = record { run = row.number; asked = false }

abbrev pub marks_of : List RunRow → List FailedRun
marks_of rows = map mark_of (filter is_running rows)

-- one run more
one-more : (rows : List RunRow) (place : ℕ) (row : RunRow) → slice_get rows place ≡ Some row
    → marks_of (take (suc place) rows) ≡ cond (is_running row) (marks_of (take place rows) ++ mark_of row ∷ []) (marks_of (take place rows))
one-more [] place row at = absurd (some-not-none row (sym at))
one-more (first ∷ rows) zero row at = by (is_running first) refl
  where
    same : first ≡ row
    same = same_Some _ _ at

    by : (b : Bool) → is_running first ≡ b → map mark_of (cond b (first ∷ []) []) ≡ cond (is_running row) (mark_of row ∷ []) []
    by true is = ap (λ (r : RunRow). mark_of r ∷ []) same ∙ sym (ap (λ b. cond b (mark_of row ∷ []) []) (ap is_running (sym same) ∙ is))
    by false is = sym (ap (λ b. cond b (mark_of row ∷ []) []) (ap is_running (sym same) ∙ is))
one-more (first ∷ rows) (suc place) row at = by (is_running first) (filter is_running (take (suc place) rows)) (filter is_running (take place rows)) (one-more rows place row at)
  where
    behind : (answer : Bool) (marks : List FailedRun) → mark_of first ∷ cond answer (marks ++ mark_of row ∷ []) marks ≡ cond answer ((mark_of first ∷ marks) ++ mark_of row ∷ []) (mark_of first ∷ marks)
    behind true marks = refl
    behind false marks = refl

    by : (b : Bool) (more some : List RunRow) → map mark_of more ≡ cond (is_running row) (map mark_of some ++ mark_of row ∷ []) (map mark_of some)
        → map mark_of (cond b (first ∷ more) more) ≡ cond (is_running row) (map mark_of (cond b (first ∷ some) some) ++ mark_of row ∷ []) (map mark_of (cond b (first ∷ some) some))
    by true more some same = ap (λ (ms : List FailedRun). mark_of first ∷ ms) same ∙ behind (is_running row) (map mark_of some)
    by false more some same = same

-- the run at a place, by its number
number_at : (tables : TablesModel) (place : ℕ) (row : RunRow) → AreNumbered 1 tables.runs → slice_get tables.runs place ≡ Some row → run_of tables row.number ≡ Some row
number_at tables place row numbered at = subst (λ n. run_of tables n ≡ Some row) (sym (run_number tables (suc place) row numbered at)) at

-- ---- a line more

abbrev pub mark_at : Run → FailedRun
mark_at line = record { run = line.number; asked = false }

module _ (tables : TablesModel) (items : List Run) (place : ℕ) (line : Run) (answer : Bool) (numbered : AreNumbered 1 tables.runs) (lines : items ≡ map line_of tables.runs) (inside : place < length items) (is : line ≡ slice_index_or items place line)
    (tells : (row : RunRow) → run_of tables row.number ≡ Some row → line ≡ line_of row → answer ≡ is_running row) where
  with_row : (after before : List FailedRun) → before ≡ marks_of (take place tables.runs) → after ≡ cond answer (before ++ mark_at line ∷ []) before → after ≡ marks_of (take (place + 1) tables.runs)
  with_row after before was becomes =
      by (slice_get tables.runs place) refl
      (sym (slice_get-map line_of tables.runs place) ∙ ap (λ (ls : List Run). slice_get ls place) (sym lines) ∙ get-from items place line inside is)
    where
      by : (found : Option RunRow) → slice_get tables.runs place ≡ found → option_map line_of found ≡ Some line → after ≡ marks_of (take (place + 1) tables.runs)
      by None at seen = absurd (some-not-none line (sym seen))
      by (Some row) at seen =
          let its : line ≡ line_of row = sym (same_Some _ _ seen) in
          becomes ∙ ap (λ b. cond b (before ++ mark_at line ∷ []) before) (tells row (number_at tables place row numbered at) its)
          ∙ ap (λ (m : FailedRun). cond (is_running row) (before ++ m ∷ []) before) (ap mark_at its)
          ∙ ap (λ (ms : List FailedRun). cond (is_running row) (ms ++ mark_of row ∷ []) ms) was
          ∙ sym (one-more tables.runs place row at)
          ∙ sym (ap (λ n. marks_of (take n tables.runs)) (plus-one place))

  pub one-put : (after before : List FailedRun) → answer ≡ true → before ≡ marks_of (take place tables.runs) → after ≡ before ++ mark_at line ∷ [] → after ≡ marks_of (take (place + 1) tables.runs)
  one-put after before holds was becomes = with_row after before was (becomes ∙ sym (ap (λ b. cond b (before ++ mark_at line ∷ []) before) holds))

  pub one-left : (after before : List FailedRun) → answer ≡ false → before ≡ marks_of (take place tables.runs) → after ≡ before → after ≡ marks_of (take (place + 1) tables.runs)
  one-left after before fails was becomes = with_row after before was (becomes ∙ sym (ap (λ b. cond b (before ++ mark_at line ∷ []) before) fails))
