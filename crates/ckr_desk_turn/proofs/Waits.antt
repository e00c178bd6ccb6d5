-- A desk whose run waits with its code for the operator's word is as its events have brought it about.
use Rattle.std.proofs.Common.{◌≡◌, ℕ, Bool, true, false, cond, not, ◌||◌, List, [], ◌∷◌, refl, ap, sym, ◌∙◌, subst, Some, None}
use Rattle.std.specs.Prelude.{◌==◌}
use Rattle.std.specs.List.{AllByRecursion, list_any}
use Rattle.ckr_base.specs.declared.code.Code.{Code}
use Rattle.ckr_base.proofs.Bools.{bool-cases}
use Rattle.ckr_base.proofs.Numbers.{equal-itself}
use Rattle.ckr_base.proofs.Sequences.{all-implies, each-filter}
use Rattle.ckr_points.specs.Follows.{is_running}
use Rattle.ckr_points.specs.Office.{Office}
use Rattle.ckr_points.specs.Rows.{RunRow}
use Rattle.ckr_desk_turn.specs.declared.failed_run.FailedRun.{FailedRun}
use Rattle.ckr_desk_turn.specs.Desk.{DeskModel, DeskStep, asked_run, coded_step, waiting, with_asked, with_code, with_progress, without_run}
use Rattle.ckr_desk_turn.specs.Invariant.{IsDesk, IsFailed, IsGoing, is_accounted}
use Rattle.ckr_desk_turn.specs.Units.{StepProgress, arrived}
use Rattle.ckr_desk_turn.proofs.Moves.{accounted_so}

-- a step that has stopped with a code, of which only the writes are asked
abbrev pub stopped : DeskStep → Code → DeskStep
stopped on code = record { run = on.run; progress = arrived 0 on.progress.writes; code = Some code }

-- so has any running step stopped
pub going-stopped : (office : Office) (on : DeskStep) (code : Code) → IsGoing office on → IsGoing office (stopped on code)
going-stopped office on code going = record {
  row = going.row;
  row_at = going.row_at;
  on = going.on;
  number = going.number;
  committed = going.committed;
  place = going.place;
  start = going.start;
  start_at = going.start_at;
  fit = going.fit;
  behind = going.behind;
  plain = going.plain;
  come = tt;
}

-- ---- the running steps

coded-going : (office : Office) (run : ℕ) (code : Code) (on : DeskStep) → IsGoing office on → IsGoing office (coded_step run code on)
coded-going office run code on going =
    bool-cases (on.run == run)
    (λ same. subst (λ b. IsGoing office (cond b (stopped on code) on)) (sym same) (going-stopped office on code going))
    (λ isnt. subst (λ b. IsGoing office (cond b (stopped on code) on)) (sym isnt) going)

coded-all : (office : Office) (run : ℕ) (code : Code) (running : List DeskStep) → AllByRecursion (IsGoing office) running → AllByRecursion (IsGoing office) (with_code run code running)
coded-all office run code [] going = tt
coded-all office run code (first ∷ rest) going = (coded-going office run code first going.0, coded-all office run code rest going.1)

pub coded-run : (run : ℕ) (code : Code) (on : DeskStep) → (coded_step run code on).run ≡ on.run
coded-run run code on =
    by (on.run == run)
  where
    by : (b : Bool) → (cond b (stopped on code) on).run ≡ on.run
    by true = refl
    by false = refl

coded-any : (run : ℕ) (code : Code) (running : List DeskStep) (number : ℕ) → list_any (λ (step : DeskStep). step.run == number) (with_code run code running) ≡ list_any (λ (step : DeskStep). step.run == number) running
coded-any run code [] number = refl
coded-any run code (first ∷ rest) number =
    ap (λ n. n == number || list_any (λ (step : DeskStep). step.run == number) (with_code run code rest)) (coded-run run code first)
    ∙ ap (λ b. first.run == number || b) (coded-any run code rest number)

-- ---- the marks

asked-still : (office : Office) (run : ℕ) (one : FailedRun) → IsFailed office one → IsFailed office (asked_run run one)
asked-still office run one failed =
    by (one.run == run)
  where
    by : (b : Bool) → IsFailed office (cond b (record one { asked = true }) one)
    by true = record { row = failed.row; number = failed.number; committed = failed.committed; start = failed.start; within = failed.within }
    by false = failed

asked-all : (office : Office) (run : ℕ) (failed : List FailedRun) → AllByRecursion (IsFailed office) failed → AllByRecursion (IsFailed office) (with_asked run failed)
asked-all office run [] each = tt
asked-all office run (first ∷ rest) each = (asked-still office run first each.0, asked-all office run rest each.1)

asked-run : (run : ℕ) (one : FailedRun) → (asked_run run one).run ≡ one.run
asked-run run one =
    by (one.run == run)
  where
    by : (b : Bool) → (cond b (record one { asked = true }) one).run ≡ one.run
    by true = refl
    by false = refl

asked-any : (run : ℕ) (failed : List FailedRun) (number : ℕ) → list_any (λ (one : FailedRun). one.run == number) (with_asked run failed) ≡ list_any (λ (one : FailedRun). one.run == number) failed
asked-any run [] number = refl
asked-any run (first ∷ rest) number =
    ap (λ n. n == number || list_any (λ (one : FailedRun). one.run == number) (with_asked run rest)) (asked-run run first)
    ∙ ap (λ b. first.run == number || b) (asked-any run rest number)

-- ---- the desk

-- a run is accounted for as before
accounted-still : (desk : DeskModel) (run : ℕ) (code : Code) (row : RunRow) → is_accounted desk row ≡ true → is_accounted (waiting run code desk) row ≡ true
accounted-still desk run code row was =
    ap (λ b. not (is_running row) || (b || list_any (λ (one : FailedRun). one.run == row.number) (with_asked run desk.failed))) (coded-any run code desk.running row.number)
    ∙ ap (λ b. not (is_running row) || (list_any (λ (step : DeskStep). step.run == row.number) desk.running || b)) (asked-any run desk.failed row.number) ∙ was

pub waiting-kept : (desk : DeskModel) → IsDesk desk → (run : ℕ) (code : Code) → IsDesk (waiting run code desk)
waiting-kept desk is run code = record {
  kept = is.kept;
  going = coded-all desk.office run code desk.running is.going;
  failed = asked-all desk.office run desk.failed is.failed;
  states = is.states;
  admitted = is.admitted;
  stepped = is.stepped;
  accounted = all-implies (is_accounted desk) (is_accounted (waiting run code desk)) desk.office.tables.runs (accounted-still desk run code) is.accounted;
  spaced = is.spaced;
  spaced_legs = is.spaced_legs;
  pointed = is.pointed;
  ready = is.ready;
  begun = is.begun;
  written = is.written;
}

-- a unit that comes to a code stops its step where it has come to: it needs no more than that it is a running step with the code
pub moved-waits : (desk : DeskModel) → IsDesk desk → (run : ℕ) (progress : StepProgress) (code : Code) → IsGoing desk.office (stopped (record { run = run; progress = progress; code = None }) code) → IsDesk (waiting run code (with_progress run progress desk))
moved-waits desk is run progress code going = record {
  kept = is.kept;
  going = (
    subst (λ b. IsGoing desk.office (cond b (stopped first code) first)) (sym (equal-itself run)) going,
    coded-all desk.office run code (without_run run desk.running) (each-filter (IsGoing desk.office) (λ (step : DeskStep). not (step.run == run)) desk.running is.going),
  );
  failed = asked-all desk.office run desk.failed is.failed;
  states = is.states;
  admitted = is.admitted;
  stepped = is.stepped;
  accounted =
      all-implies (is_accounted desk) (is_accounted (waiting run code (with_progress run progress desk))) desk.office.tables.runs
      (λ row was. accounted-still (with_progress run progress desk) run code row (accounted_so desk is run progress row was)) is.accounted;
  spaced = is.spaced;
  spaced_legs = is.spaced_legs;
  pointed = is.pointed;
  ready = is.ready;
  begun = is.begun;
  written = is.written;
}
  where
    first : DeskStep
    first = record { run = run; progress = progress; code = None }
