-- The events stay kept where a run ends: behind its last step, before a step, or within one.
use Rattle.std.proofs.Common.{◌≡◌, ℕ, true, false, List, [], refl, ap, sym, ◌∙◌, Option, Some, None}
use Rattle.std.specs.Prelude.{◌==◌}
use Rattle.std.specs.Option.{option_map, option_map_or}
use Rattle.std.proofs.lemmas.Bool.{false≢true}
use Rattle.ckr_entry.specs.declared.point.Passed.{Passed}
use Rattle.ckr_library.specs.NameMaps.{Name, Named, entry_at, taken_over}
use Rattle.ckr_meaning.specs.LibrarySet.{Library, LibrarySet}
use Rattle.ckr_meaning.specs.Dispositions.{Stock, passed_ended}
use Rattle.ckr_meaning.specs.EffectiveJob.{Effective, OwnedStep, is_among, step_at}
use Rattle.ckr_meaning.specs.declared.place.Place.{Place}
use Rattle.ckr_meaning.specs.declared.place.Place.TheVariants.{Before, Opened, Within}
use Rattle.ckr_meaning.specs.JobRun.{at, ended_with, job_run, start_at, start_in, walk_before, with_sets}
use Rattle.ckr_meaning.specs.StepRun.{StepStart, disposed_at, opened_at, within_at}
use Rattle.ckr_volumes.specs.declared.layout.Layout.{Layout}
use Rattle.ckr_points.specs.declared.run.RunState.TheVariants.{Ended as EndedRun}
use Rattle.ckr_points.specs.Tables.{after_dispositions}
use Rattle.ckr_points.specs.Follows.{is_within, state_number}
use Rattle.ckr_points_invariant.specs.Invariant.{AreAlike, IsAtPlace, IsHolder, IsAgreed, set_shape, step_now, table_shape}
use Rattle.ckr_points_invariant.specs.RunningSteps.{IsRunning, its_start}
use Rattle.ckr_base.proofs.Bools.{bool-cases}
use Rattle.ckr_points.specs.Marks.{has_passed, without_passed}
use Rattle.ckr_points.specs.Office.{Leg, Office, is_holder, passed_made}
use Rattle.ckr_points.specs.Restart.{place_of, step_in}
use Rattle.ckr_points.specs.Rows.{RunRow, TableSet, step_of_run}
use Rattle.ckr_points.specs.Soundness.{AreLaidOut}
use Rattle.ckr_points_invariant.proofs.Library.Likeness.{passed_ended-alike}
use Rattle.ckr_points_invariant.proofs.Steps.Commits.{found_leg}
use Rattle.ckr_points_invariant.proofs.StepEnd.Invariant.{disposed-enters, disposed-inside, disposed-laid, disposed-outside, disposed-passes}
use Rattle.ckr_points_invariant.proofs.Holders.End.{EndsSo, kept-ends}
use Rattle.ckr_points_invariant.proofs.Library.Extents.{passed_ended-laid}
use Rattle.ckr_points_invariant.proofs.Holders.Moves.{Among, moved, standing-is}
use Rattle.ckr_points_invariant.proofs.Library.PassedList.{ended-has, ended-stays}
use Rattle.ckr_points_invariant.proofs.Soundness.{at-passed}
use Rattle.ckr_points_invariant.proofs.Steps.Walks.{at-before, cut-before, cut-opened, cut-within, run-behind, run-cut}

-- ---- what a job leaves

-- cut between steps, or before anything of a step is made
run-outside : (job : Effective) (library : Library) (place : Place) → is_within place ≡ false → job_run job library (Some place) ≡ ended_with (at job library place)
run-outside job library (Before number) out = run-cut job library (Before number) ∙ cut-before job library number ∙ ap ended_with (sym (at-before job library number))
run-outside job library (Opened number) out = run-cut job library (Opened number) ∙ cut-opened job library number
run-outside job library (Within number writes) out = absurd (false≢true (sym out))

-- behind the last step nothing is opened
at-none : (job : Effective) (library : Library) (place : Place) → is_within place ≡ false → step_at job (step_in place) ≡ None → at job library place ≡ (walk_before job library (step_in place)).standing
unfolding at start_at
at-none job library (Before number) out none = refl
at-none job library (Opened number) out none =
    ap (λ (step : Option OwnedStep). option_map_or (λ (start : StepStart). with_sets (opened_at start) start.standing) (option_map (λ owned. start_in job.root number owned (walk_before job library number)) step) (walk_before job library number).standing) none
at-none job library (Within number writes) out none = absurd (false≢true (sym out))

-- ---- the row and the data sets of a run that ended

abbrev pub ended_row : RunRow → RunRow
ended_row row = record row { state = EndedRun; initiator = None; code = None; passed = []; lost = []; in_effect = None }

-- data sets as a standing leaves them, that is alike on the reach; the run ends what it hasn't lost of the passed list
ends_with : (layout : Layout) (office : Office) (row next : RunRow) (leg : Leg) (cut : Option Place) (lost : List Name) (passed : List Passed) (sets : Named TableSet) (standing : Stock LibrarySet) → next.number ≡ row.number → next.deck ≡ row.deck → next.state ≡ EndedRun → job_run leg.job leg.start cut ≡ ended_with standing → passed ≡ standing.passed → ((name : Name) → Among leg name → AreAlike sets standing.sets name) → ((name : Name) → is_among lost name ≡ true → is_among leg.reach name ≡ false) → ((name : Name) → is_among leg.reach name ≡ false → is_among lost name ≡ false → is_among (passed_made passed) name ≡ false) → ((name : Name) → is_among leg.reach name ≡ false → entry_at sets name ≡ entry_at office.tables.sets name) → AreLaidOut layout sets → EndsSo layout office row next leg cut (passed_ended (without_passed lost passed) sets)
ends_with layout office row next leg cut lost passed sets standing same deck over ran passes alike unreached entered outside laid = record {
  same = same;
  deck = deck;
  over = ap is_holder over;
  busy = ap (λ state. state_number state == 1) over;
  outside = λ name out. ended-stays lost passed sets name (entered name out) ∙ outside name out;
  inside = λ name among.
      ap (option_map table_shape) (ended-has lost passed sets name (bool-cases (is_among lost name) (λ gone. absurd (false≢true (sym (unreached name gone) ∙ among))) (λ e. e)))
      ∙ passed_ended-alike name passed sets standing.sets (alike name among)
      ∙ ap (λ passed. option_map set_shape (entry_at (passed_ended passed standing.sets) name)) passes
      ∙ ap (λ library. option_map set_shape (entry_at library name)) (sym ran);
  extents = passed_ended-laid layout (without_passed lost passed) sets laid;
}

module _ (layout : Layout) (office : Office) (number : ℕ) (row : RunRow) (leg : Leg) (kept : IsAgreed layout office) (holder : IsHolder office number row leg) where
  at_place : IsAtPlace office.tables row leg
  at_place = kept.places number row leg holder

  -- ---- not within a step

  module _ (out : is_within (place_of row) ≡ false) where
    ends_outside : (cut : Option Place) → job_run leg.job leg.start cut ≡ ended_with (at leg.job leg.start (place_of row)) → EndsSo layout office row (ended_row row) leg cut (passed_ended (has_passed row) office.tables.sets)
    ends_outside cut ran =
        ends_with layout office row (ended_row row) leg cut row.lost row.passed office.tables.sets (at leg.job leg.start (place_of row)) refl refl refl ran
        (at_place.passed ∙ sym (at-passed leg.job leg.start (place_of row)))
        (λ name among. kept.held number row leg name holder among ∙ ap (λ (standing : Stock LibrarySet). option_map set_shape (entry_at standing.sets name)) (standing-is office number row leg holder.row_at holder.leg_at))
        at_place.unreached at_place.entered (λ name out. refl) kept.extents

    pub kept-cut : IsAgreed layout (moved (ended_row row) (passed_ended (has_passed row) office.tables.sets) (taken_over leg.reach (job_run leg.job leg.start (Some (place_of row))) office.library) office)
    kept-cut =
        kept-ends layout office number row (ended_row row) leg (Some (place_of row)) (passed_ended (has_passed row) office.tables.sets) kept holder
        (ends_outside (Some (place_of row)) (run-outside leg.job leg.start (place_of row) out))

    pub kept-completed : step_of_run row (step_now row) ≡ None → IsAgreed layout (moved (ended_row row) (passed_ended (has_passed row) office.tables.sets) (taken_over leg.reach (job_run leg.job leg.start None) office.library) office)
    kept-completed none =
        let leg_none : step_at leg.job (step_now row) ≡ None = ap (λ job. step_at job (step_now row)) at_place.job ∙ none in
        kept-ends layout office number row (ended_row row) leg None (passed_ended (has_passed row) office.tables.sets) kept holder
        (ends_outside None (
        run-behind leg.job leg.start (step_now row) at_place.begun leg_none at_place.goes_on
        ∙ ap ended_with (sym (at-none leg.job leg.start (place_of row) out leg_none))))

-- ---- within a step

module _ (layout : Layout) (office : Office) (number : ℕ) (row : RunRow) (leg : Leg) (owned : OwnedStep) (step writes : ℕ) (kept : IsAgreed layout office) (running : IsRunning office number row leg owned step writes) where
  abbrev disposed : Stock TableSet
  disposed = after_dispositions row owned step true office.tables

  ends_within : EndsSo layout office row (ended_row row) leg (Some (Within step writes)) (passed_ended (without_passed row.lost disposed.passed) disposed.sets)
  ends_within =
      ends_with layout office row (ended_row row) leg (Some (Within step writes)) row.lost disposed.passed disposed.sets
      (disposed_at (its_start leg owned step) true (within_at (its_start leg owned step) writes)) refl refl refl
      (run-cut leg.job leg.start (Within step writes) ∙ cut-within leg.job leg.start step writes owned (found_leg layout office number row leg owned step writes kept running))
      (disposed-passes layout office number row leg owned step writes kept running true)
      (disposed-inside layout office number row leg owned step writes kept running true)
      (kept.places number row leg running.holder).unreached
      (disposed-enters layout office number row leg owned step writes kept running true)
      (disposed-outside layout office number row leg owned step writes kept running true)
      (disposed-laid layout office number row leg owned step writes kept running true)

  pub kept-within : IsAgreed layout (moved (ended_row row) (passed_ended (without_passed row.lost disposed.passed) disposed.sets) (taken_over leg.reach (job_run leg.job leg.start (Some (Within step writes))) office.library) office)
  kept-within = kept-ends layout office number row (ended_row row) leg (Some (Within step writes)) (passed_ended (without_passed row.lost disposed.passed) disposed.sets) kept running.holder ends_within
