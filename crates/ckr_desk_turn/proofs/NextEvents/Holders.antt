-- A run that holds its names within a step, on its initiator or off it: the events by which it ends with a code, or is held, may come.
use Rattle.std.proofs.Common.{◌≡◌, ◌≤◌, ℕ, Bool, true, false, ◌&&◌, ◌||◌, List, length, refl, ap, sym, ◌∙◌, subst, Option, Some, None}
use Rattle.std.specs.Prelude.{◌==◌}
use Rattle.std.specs.List.{AllByRecursion}
use Rattle.std.specs.Option.{option_map, option_map_or}
use Rattle.std.proofs.lemmas.Bool.{and_from}
use Rattle.std.proofs.lemmas.Option.{same_Some}
use Rattle.ckr_base.specs.declared.code.Code.{Code}
use Rattle.ckr_base.proofs.Options.{option-cases, some-not-none}
use Rattle.ckr_base.proofs.Sequences.{find-holds}
use Rattle.ckr_events.specs.declared.event.Event.TheVariants.{Ended as EndedEvent, Held as HeldEvent}
use Rattle.ckr_events.specs.declared.event.Ending.TheVariants.{Coded as CodedEnding}
use Rattle.ckr_meaning.specs.LibrarySet.{AreWithinSpace}
use Rattle.ckr_meaning.specs.EffectiveJob.{OwnedStep, step_at}
use Rattle.ckr_meaning.specs.declared.place.Place.{Place}
use Rattle.ckr_meaning.specs.declared.place.Place.TheVariants.{Within}
use Rattle.ckr_meaning.specs.JobRun.{start_at}
use Rattle.ckr_meaning.specs.StepRun.{StepStart, work_at}
use Rattle.ckr_points.specs.declared.run.RunState.TheVariants.{Released as ReleasedRun}
use Rattle.ckr_points.specs.Follows.{is_in_state, is_running, lengths_follow}
use Rattle.ckr_points.specs.Payload.{commits, lengths_at, of_start, rewrites_nothing, start_in_office}
use Rattle.ckr_points.specs.Office.{Leg, Office, is_holder, leg_of}
use Rattle.ckr_points.specs.Restart.{place_of, step_in}
use Rattle.ckr_points.specs.Rows.{RunRow, run_of}
use Rattle.ckr_points.specs.Soundness.{ending_names_first}
use Rattle.ckr_points_invariant.specs.Invariant.{IsKept}
use Rattle.ckr_points_invariant.specs.RunningSteps.{IsRunning, its_start}
use Rattle.ckr_points_invariant.proofs.Steps.Events.{led-by}
use Rattle.ckr_points_invariant.proofs.Steps.Walks.{start_at-of}
use Rattle.ckr_rules.specs.RuleTables.{rule_number}
use Rattle.ckr_rules.specs.declared.cases.Rule.{Rule}
use Rattle.ckr_volumes.specs.declared.layout.Layout.{Layout}
use Rattle.ckr_desk_turn.specs.Codes.{verdict_for}
use Rattle.ckr_desk_turn.specs.Desk.{DeskModel}
use Rattle.ckr_desk_turn.specs.NextEvents.{Comes, IsWithinStep}
use Rattle.ckr_desk_turn.specs.Invariant.{IsDesk}
use Rattle.ckr_desk_turn.proofs.Codes.{may_end}
use Rattle.ckr_desk_turn.proofs.Units.Outputs.{lengths-carried, lengths-follow}

-- a run that holds its names, within its step behind so many committed writes
pub record HoldsStep (office : Office) (run : ℕ) (row : RunRow) (number committed : ℕ) (start : StepStart) : Type 0 where
  pub row_at : run_of office.tables run ≡ Some row
  pub holds : is_holder row.state ≡ true
  pub place : place_of row ≡ Within number committed
  pub start_at : start_in_office office row ≡ Some start

-- a run on an initiator is one
pub on-holder : (office : Office) (run : ℕ) (row : RunRow) (number committed : ℕ) (start : StepStart) → IsWithinStep office run row number committed start → HoldsStep office run row number committed start
on-holder office run row number committed start within = record {
  row_at = within.row_at;
  holds = ap is_holder within.on;
  place = within.place;
  start_at = within.start_at;
}

-- an event that ends it or holds it asks that it is running, or was released
abbrev pub may_go : RunRow → Bool
may_go row = is_running row || is_in_state ReleasedRun row

pub start_at-none : (leg : Leg) (number : ℕ) → step_at leg.job number ≡ None → start_at leg.job leg.start number ≡ None
unfolding start_at
start_at-none leg number none = ap (option_map _) none

-- ---- at an office whose events are kept

module _ (layout : Layout) (office : Office) (run : ℕ) (row : RunRow) (number committed : ℕ) (start : StepStart) (held : HoldsStep office run row number committed start) where
  -- its leg, and its step there
  pub by-holder : {A : Type 0} → IsKept layout office → ((leg : Leg) (owned : OwnedStep) → IsRunning office run row leg owned number committed → start ≡ its_start leg owned number → A) → A
  by-holder kept use_it =
      led-by layout office run row kept.events held.row_at held.holds
      (λ leg holder.
      let starts : start_in_office office row ≡ start_at leg.job leg.start number =
      ap (λ (o : Option Leg). option_map_or (λ leg. start_at leg.job leg.start (step_in (place_of row))) o None) (ap (leg_of office) (kept.events.numbered run row held.row_at) ∙ holder.leg_at)
      ∙ ap (λ (place : Place). start_at leg.job leg.start (step_in place)) held.place in
      option-cases (step_at leg.job number)
      (λ none. absurd (some-not-none start (sym held.start_at ∙ starts ∙ start_at-none leg number none)))
      (λ owned found.
      use_it leg owned
      (record { holder = holder; stands = held.place; found = ap (λ job. step_at job number) (sym (kept.events.places run row leg holder).job) ∙ found })
      (same_Some _ _ (sym held.start_at ∙ starts ∙ start_at-of leg.job leg.start number owned found))))

  -- and its space
  pub by-spaced : {A : Type 0} → IsKept layout office → AllByRecursion (λ (leg : Leg). AreWithinSpace leg.start) office.legs → ((leg : Leg) (owned : OwnedStep) → IsRunning office run row leg owned number committed → start ≡ its_start leg owned number → AreWithinSpace leg.start → A) → A
  by-spaced kept spaced use_it =
      by-holder kept
      (λ leg owned running same.
      use_it leg owned running same (find-holds (λ (leg : Leg). AreWithinSpace leg.start) (λ leg. leg.number == run) office.legs leg spaced running.holder.leg_at))

  -- a test of the run
  pub of-run : (test : RunRow → Bool) → test row ≡ true → option_map_or test (run_of office.tables run) false ≡ true
  of-run test passes = ap (λ (o : Option RunRow). option_map_or test o false) held.row_at ∙ passes

  -- a test of its step
  pub of-start : (test : RunRow → StepStart → Bool) → test row start ≡ true → of_start office run test ≡ true
  of-start test passes =
      ap (λ (o : Option RunRow). option_map_or (λ row. option_map_or (test row) (start_in_office office row) false) o false) held.row_at
      ∙ ap (λ (o : Option StepStart). option_map_or (test row) o false) held.start_at ∙ passes

-- ---- at a desk

module _ (desk : DeskModel) (is : IsDesk desk) (run : ℕ) (row : RunRow) (number committed : ℕ) (start : StepStart) (held : HoldsStep desk.office run row number committed start)
    (to : ℕ) (behind : committed ≤ to) (fit : to ≤ length (work_at start).writes) (plain : rewrites_nothing start committed to ≡ true) where
  abbrev pub lengths_then : List ℕ
  lengths_then = lengths_at start desk.office.tables.sets to

  pub follow-so : lengths_follow desk.office.tables row lengths_then ≡ true
  follow-so =
      by-spaced desk.layout desk.office run row number committed start held is.kept is.spaced_legs
      (λ leg owned running same spaced.
      subst (λ s. to ≤ length (work_at s).writes → rewrites_nothing s committed to ≡ true → lengths_follow desk.office.tables row (lengths_at s desk.office.tables.sets to) ≡ true) (sym same)
      (λ fit plain. lengths-follow desk.layout desk.office run row leg owned number committed to is.kept.events running spaced behind fit plain) fit plain)

  pub carried-so : commits desk.office.tables.sets row to lengths_then start ≡ true
  carried-so =
      by-spaced desk.layout desk.office run row number committed start held is.kept is.spaced_legs
      (λ leg owned running same spaced.
      subst (λ s. to ≤ length (work_at s).writes → rewrites_nothing s committed to ≡ true → commits desk.office.tables.sets row to (lengths_at s desk.office.tables.sets to) s ≡ true) (sym same)
      (λ fit plain. lengths-carried desk.layout desk.office run row leg owned number committed to is.kept.events running spaced behind fit plain) fit plain)

  module _ (goes : may_go row ≡ true) where
    goes-so : option_map_or (λ row. may_go row && lengths_follow desk.office.tables row lengths_then) (run_of desk.office.tables run) false ≡ true
    goes-so =
        of-run desk.layout desk.office run row number committed start held (λ row. may_go row && lengths_follow desk.office.tables row lengths_then)
        (and_from (may_go row) (lengths_follow desk.office.tables row lengths_then) goes follow-so)

    -- the run ends with a code by the rule that denies its restart, or by that of the operator
    pub coded-comes : (code : Code) (rule : Rule) → may_end rule (verdict_for desk.layout row code) ≡ true → Comes desk (EndedEvent run (CodedEnding code (rule_number rule) to (record { items = lengths_then })))
    coded-comes code rule first = record {
      may =
          and_from _ _ goes-so
          (of-run desk.layout desk.office run row number committed start held (λ other. ending_names_first desk.layout other (CodedEnding code (rule_number rule) to (record { items = lengths_then }))) first);
      carried = of-start desk.layout desk.office run row number committed start held (λ row. commits desk.office.tables.sets row to lengths_then) carried-so;
    }

    -- it is held with its code
    pub held-comes : (code : Code) → Comes desk (HeldEvent run code to (record { items = lengths_then }))
    held-comes code = record {
      may = and_from _ true goes-so refl;
      carried = of-start desk.layout desk.office run row number committed start held (λ row. commits desk.office.tables.sets row to lengths_then) carried-so;
    }
