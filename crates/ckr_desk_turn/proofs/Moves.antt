-- The desk where a running step has come further, or more of it is served.
use Rattle.std.proofs.Common.{◌≡◌, ℕ, Bool, true, false, not, ◌||◌, List, ◌∷◌, find, refl, ap, sym, ◌∙◌, subst, Option, Some, None}
use Rattle.std.specs.Prelude.{◌==◌}
use Rattle.std.specs.List.{list_any}
use Rattle.std.specs.Option.{option_map_or}
use Rattle.std.proofs.lemmas.Bool.{false≢true, or_left, or_right}
use Rattle.ckr_base.proofs.Bools.{bool-cases}
use Rattle.ckr_base.proofs.Numbers.{equal-itself}
use Rattle.ckr_base.proofs.Sequences.{all-get, each-filter}
use Rattle.ckr_meaning.specs.StepRun.{StepStart}
use Rattle.ckr_points.specs.Follows.{is_running}
use Rattle.ckr_points.specs.Office.{Office}
use Rattle.ckr_points.specs.Rows.{RunRow}
use Rattle.ckr_desk_turn.specs.Desk.{DeskModel, DeskStep, with_change, with_progress, without_run}
use Rattle.ckr_desk_turn.specs.Units.{StepProgress}
use Rattle.ckr_desk_turn.specs.Invariant.{HasCome, HasComeSo, IsDesk, IsGoing, is_accounted}
use Rattle.ckr_desk_turn.proofs.OtherRuns.{all-by, running-same}

module _ (desk : DeskModel) (is : IsDesk desk) (run : ℕ) (progress : StepProgress) where
  abbrev pub moved : DeskModel
  moved = with_progress run progress desk

  still_running : (number : ℕ) → list_any (λ (step : DeskStep). step.run == number) desk.running ≡ true → list_any (λ (step : DeskStep). step.run == number) moved.running ≡ true
  still_running number some =
      bool-cases (run == number)
      (λ here. or_left (run == number) _ here)
      (λ there.
      or_right (run == number) _
      (sym (running-same run desk.running number (λ e. false≢true (sym there ∙ ap (λ n. n == number) (sym e) ∙ equal-itself number))) ∙ some))

  pub accounted_so : (row : RunRow) → is_accounted desk row ≡ true → is_accounted moved row ≡ true
  accounted_so row was =
      by (not (is_running row)) (list_any (λ (step : DeskStep). step.run == row.number) desk.running) _ _ (still_running row.number) was
    where
      by : (out old new failed : Bool) → (old ≡ true → new ≡ true) → (out || (old || failed)) ≡ true → (out || (new || failed)) ≡ true
      by true old new failed more e = refl
      by false true new failed more e = ap (λ b. b || failed) (more refl)
      by false false new failed more e = or_right new failed e

  -- the desk where the step has come further
  pub moved-kept : IsGoing desk.office (record { run = run; progress = progress; code = None }) → IsDesk moved
  moved-kept going = record {
    kept = is.kept;
    going = (going, each-filter (IsGoing desk.office) (λ (step : DeskStep). not (step.run == run)) desk.running is.going);
    failed = is.failed;
    states = is.states;
    admitted = is.admitted;
    stepped = is.stepped;
    accounted = all-by (is_accounted moved) desk.office.tables.runs (λ place row at. accounted_so row (all-get (is_accounted desk) desk.office.tables.runs place row is.accounted at));
    spaced = is.spaced;
    spaced_legs = is.spaced_legs;
    pointed = is.pointed;
    ready = is.ready;
    begun = is.begun;
    written = is.written;
  }

-- however much of it is served, a running step has come as far
pub come-served : (start : StepStart) (progress : StepProgress) (checkpointed cancelled closed : Bool) → HasCome start progress closed → HasCome start (record progress { checkpointed = checkpointed; cancelled = cancelled }) closed
come-served start progress checkpointed cancelled false come = record { taken = come.taken; writes = come.writes }
come-served start progress checkpointed cancelled true come = record { writes = come.writes; rc = come.rc; returned = come.returned }

-- a running step that waits with no code has come so far
pub come-uncoded : (office : Office) (on : DeskStep) → on.code ≡ None → (going : IsGoing office on) → HasCome going.start on.progress on.progress.closed
come-uncoded office on uncoded going = subst (λ code. HasComeSo code going.start on.progress) uncoded going.come

pub going-served : (office : Office) (on : DeskStep) (checkpointed cancelled : Bool) → on.code ≡ None → IsGoing office on → IsGoing office (record { run = on.run; progress = record on.progress { checkpointed = checkpointed; cancelled = cancelled }; code = None })
going-served office on checkpointed cancelled uncoded going = record {
  row = going.row;
  row_at = going.row_at;
  on = going.on;
  number = going.number;
  committed = going.committed;
  place = going.place;
  start = going.start;
  start_at = going.start_at;
  fit = going.fit;
  behind = going.behind;
  plain = going.plain;
  come = come-served going.start on.progress checkpointed cancelled on.progress.closed (come-uncoded office on uncoded going);
}

-- the running steps where that of a run is found and changes
pub with_change-found : (run : ℕ) (change : StepProgress → StepProgress) (running : List DeskStep) (on : DeskStep) → find (λ (step : DeskStep). step.run == run) running ≡ Some on → with_change run change running ≡ record { run = run; progress = change on.progress; code = None } ∷ without_run run running
with_change-found run change running on found =
    ap (λ (o : Option DeskStep). option_map_or (λ (step : DeskStep). let changed : DeskStep = record { run = run; progress = change step.progress; code = None } in changed ∷ without_run run running) o running) found
