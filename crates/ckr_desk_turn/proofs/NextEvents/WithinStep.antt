-- The event by which a step ends with its return code may come.
use Rattle.std.proofs.Common.{◌≡◌, ◌≤◌, ℕ, Bool, true, false, ◌&&◌, List, length, refl, ap, sym, ◌∙◌}
use Rattle.std.specs.Prelude.{◌==◌}
use Rattle.std.specs.Option.{option_map_or}
use Rattle.std.proofs.lemmas.Bool.{and_from}
use Rattle.ckr_base.specs.declared.programs.Finish.TheVariants.{Returned}
use Rattle.ckr_points_invariant.specs.RunningSteps.{IsRunning, its_start}
use Rattle.ckr_base.proofs.Numbers.{equal-itself}
use Rattle.ckr_events.specs.declared.event.Event.TheVariants.{StepEnded as StepEndedEvent}
use Rattle.ckr_meaning.specs.LibrarySet.{AreWithinSpace}
use Rattle.ckr_meaning.specs.EffectiveJob.{OwnedStep}
use Rattle.ckr_meaning.specs.StepRun.{StepStart, work_at}
use Rattle.ckr_points.specs.declared.run.RunState.{RunState}
use Rattle.ckr_points.specs.declared.run.RunState.TheVariants.{On}
use Rattle.ckr_points.specs.Follows.{is_in_state, is_running, is_within, lengths_follow, state_number}
use Rattle.ckr_points.specs.Payload.{commits, is_returned, lengths_at, of_start, rewrites_nothing}
use Rattle.ckr_points.specs.Office.{Leg}
use Rattle.ckr_points.specs.Restart.{place_of, step_in}
use Rattle.ckr_points.specs.Rows.{RunRow, run_of}
use Rattle.ckr_desk_turn.specs.Desk.{DeskModel}
use Rattle.ckr_desk_turn.specs.NextEvents.{Comes, IsWithinStep}
use Rattle.ckr_desk_turn.specs.Invariant.{IsDesk}
use Rattle.ckr_desk_turn.proofs.NextEvents.Holders.{by-spaced, carried-so as holder-carried, follow-so as holder-follows, of-run as holder-run, of-start as holder-start, on-holder}

module _ (desk : DeskModel) (is : IsDesk desk) (run : ℕ) (row : RunRow) (number committed : ℕ) (start : StepStart) (within : IsWithinStep desk.office run row number committed start) where
  -- the run of the step, with its leg
  pub by-step : {A : Type 0} → ((leg : Leg) (owned : OwnedStep) → IsRunning desk.office run row leg owned number committed → start ≡ its_start leg owned number → AreWithinSpace leg.start → A) → A
  by-step = by-spaced desk.layout desk.office run row number committed start (on-holder desk.office run row number committed start within) is.kept is.spaced_legs

  -- a test of the run's step
  pub of-start : (test : RunRow → StepStart → Bool) → test row start ≡ true → of_start desk.office run test ≡ true
  of-start = holder-start desk.layout desk.office run row number committed start (on-holder desk.office run row number committed start within)

  pub of-run : (test : RunRow → Bool) → test row ≡ true → option_map_or test (run_of desk.office.tables run) false ≡ true
  of-run = holder-run desk.layout desk.office run row number committed start (on-holder desk.office run row number committed start within)

  pub runs : is_running row ≡ true
  runs = and_from (is_in_state On row) (is_within (place_of row)) (ap (λ (state : RunState). state_number state == 2) within.on) (ap is_within within.place)

  module _ (to : ℕ) (behind : committed ≤ to) (fit : to ≤ length (work_at start).writes) (plain : rewrites_nothing start committed to ≡ true) where
    abbrev pub lengths_then : List ℕ
    lengths_then = lengths_at start desk.office.tables.sets to

    pub follow-so : lengths_follow desk.office.tables row lengths_then ≡ true
    follow-so = holder-follows desk is run row number committed start (on-holder desk.office run row number committed start within) to behind fit plain

    pub carried-so : commits desk.office.tables.sets row to lengths_then start ≡ true
    carried-so = holder-carried desk is run row number committed start (on-holder desk.office run row number committed start within) to behind fit plain

    -- the step ends with all its writes and a return code
    pub step_ended-comes : (rc : ℕ) → to ≡ length (work_at start).writes → (work_at start).finish ≡ Returned rc → Comes desk (StepEndedEvent run number rc to (record { items = lengths_then }))
    step_ended-comes rc all returned = record {
      may =
          and_from _ true
          (of-run (λ row. is_running row && step_in (place_of row) == number && lengths_follow desk.office.tables row lengths_then)
          (and_from (is_running row && step_in (place_of row) == number) (lengths_follow desk.office.tables row lengths_then)
          (and_from (is_running row) (step_in (place_of row) == number) runs (ap (λ place. step_in place == number) within.place ∙ equal-itself number)) follow-so)) refl;
      carried =
          of-start (λ row start. commits desk.office.tables.sets row to lengths_then start && to == length (work_at start).writes && is_returned rc (work_at start).finish)
          (and_from (commits desk.office.tables.sets row to lengths_then start && to == length (work_at start).writes) (is_returned rc (work_at start).finish)
          (and_from (commits desk.office.tables.sets row to lengths_then start) (to == length (work_at start).writes) carried-so (ap (λ n. to == n) (sym all) ∙ equal-itself to))
          (ap (is_returned rc) returned ∙ equal-itself rc));
    }
