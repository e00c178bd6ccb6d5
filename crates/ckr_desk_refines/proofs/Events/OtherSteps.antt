-- The running steps of the other runs stand behind an event of a run.
use Rattle.std.proofs.Common.{◌≡◌, ◌≢◌, ◌≤◌, ℕ, Bool, true, false, cond, not, ◌||◌, List, [], ◌∷◌, filter, find, length, refl, ap, sym, ◌∙◌, subst, Option, Some, None, arith}
use Rattle.std.specs.Prelude.{◌==◌}
use Rattle.std.specs.List.{AllByRecursion, list_any}
use Rattle.std.specs.Option.{option_map_or}
use Rattle.std.proofs.lemmas.Bool.{and_from, false≢true, not-true}
use Rattle.std.proofs.lemmas.Option.{same_Some}
use Rattle.ckr_base.proofs.Bools.{and-first, and-second}
use Rattle.ckr_base.proofs.Numbers.{equal-false, equal-true}
use Rattle.ckr_base.proofs.Options.{some-not-none}
use Rattle.ckr_desk_memory.specs.View.{RunningStepView}
use Rattle.ckr_desk_turn.specs.Invariant.{IsDesk, IsGoing}
use Rattle.ckr_desk_turn.proofs.Units.Outputs.{distinct-job, distinct-step}
use Rattle.ckr_desk_turn.proofs.RunningSteps.{going-within}
use Rattle.ckr_desk_turn.proofs.NextEvents.WithinStep.{by-step}
use Rattle.ckr_desk_refines.specs.SharedSets.{LeavesOthers}
use Rattle.ckr_desk_refines.specs.StepSets.{LiesThere}
use Rattle.ckr_desk_refines.proofs.Durable.Fellows.{others-of-step}
use Rattle.ckr_library.specs.declared.sets.DataSet.{DataSet}
use Rattle.ckr_library.specs.Catalog.{set_of}
use Rattle.ckr_library.specs.NameMaps.{Name, entry_at}
use Rattle.ckr_library.proofs.Named.{each-at}
use Rattle.ckr_meaning.specs.Dispositions.{Stock}
use Rattle.ckr_meaning.specs.EffectiveJob.{OwnedStep, is_among, names_of}
use Rattle.ckr_meaning.specs.LibrarySet.{AreWithinSpace, IsWithinSpace, LibrarySet}
use Rattle.ckr_meaning.specs.declared.place.Place.TheVariants.{Before}
use Rattle.ckr_meaning.specs.JobRun.{start_at}
use Rattle.ckr_meaning.specs.StepRun.{StepStart, within_at}
use Rattle.ckr_meaning.proofs.Room.{at-within, within_at-within}
use Rattle.ckr_points.specs.Office.{Leg, Office}
use Rattle.ckr_points.specs.declared.run.RunState.TheVariants.{On}
use Rattle.ckr_points.specs.Restart.{place_of, step_in}
use Rattle.ckr_points.specs.Rows.{RunRow, TableSet, run_of}
use Rattle.ckr_points_invariant.specs.Invariant.{IsAgreed}
use Rattle.ckr_points_invariant.specs.RunningSteps.{IsRunning, its_start}
use Rattle.ckr_points_invariant.proofs.Steps.Commits.{formed_step, place_so}
use Rattle.ckr_points_invariant.proofs.Steps.Walks.{at-before}
use Rattle.ckr_desk_refines.specs.Moves.{HasSameRecords}
use Rattle.ckr_desk_refines.specs.Standing.{AllStand, StandsForStep, differ, is_of_one, steps_without}
use Rattle.ckr_steps.specs.Places.{ShowsWithin}
use Rattle.ckr_steps.specs.Writes.{IsShown}
use Rattle.ckr_desk_turn.specs.Desk.{DeskModel, DeskStep}
use Rattle.ckr_volumes.specs.declared.layout.Layout.{Layout}
use Rattle.ckr_volumes.specs.Records.{records_on}
use Rattle.ckr_volumes.specs.SamePlaces.{same_places}
use Rattle.ckr_volumes.specs.Layouts.{StandsIn}
use Rattle.ckr_desk_refines.proofs.Events.OtherRows.{Enters, LeavesRuns}
use Rattle.ckr_points.specs.Payload.{start_in_office}
use Rattle.ckr_desk_memory.specs.EventChanges.{without_run as seen_without}

-- ---- lists

any-filtered : {X : Type 0} (test keep : X → Bool) (xs : List X) → list_any test xs ≡ false → list_any test (filter keep xs) ≡ false
any-filtered test keep [] none = refl
any-filtered test keep (x ∷ xs) none =
    by (test x) (list_any test xs) none (λ none. any-filtered test keep xs none) (keep x) refl
  where
    by : (first rest : Bool) → (first || rest) ≡ false → (rest ≡ false → list_any test (filter keep xs) ≡ false) → (kept : Bool) → test x ≡ first → list_any test (cond kept (x ∷ filter keep xs) (filter keep xs)) ≡ false
    by true rest none later kept is = absurd (false≢true (sym none))
    by false rest none later true is = ap (λ b. b || list_any test (filter keep xs)) is ∙ later none
    by false rest none later false is = later none

-- what holds of each step holds of each one that is left
pub left-each : (P : DeskStep → Type 0) (run : ℕ) (running : List DeskStep) → AllByRecursion P running → AllByRecursion P (steps_without run running)
left-each P run [] each = tt
left-each P run (step ∷ running) each = by (step.run == run) (left-each P run running each.1)
  where
    by : (b : Bool) → AllByRecursion P (steps_without run running) → AllByRecursion P (cond (not b) (step ∷ steps_without run running) (steps_without run running))
    by true rest = rest
    by false rest = (each.0, rest)

-- none of those that are left is of the run
pub left-none : (run : ℕ) (running : List DeskStep) → is_of_one run (steps_without run running) ≡ false
left-none run [] = refl
left-none run (step ∷ running) = by (step.run == run) refl (left-none run running)
  where
    by : (b : Bool) → (step.run == run) ≡ b → is_of_one run (steps_without run running) ≡ false → is_of_one run (cond (not b) (step ∷ steps_without run running) (steps_without run running)) ≡ false
    by true is rest = rest
    by false is rest = ap (λ b. b || is_of_one run (steps_without run running)) is ∙ rest

-- no two of those that are left are of one run
pub left-differ : (run : ℕ) (running : List DeskStep) → differ running ≡ true → differ (steps_without run running) ≡ true
left-differ run [] so = refl
left-differ run (step ∷ running) so = by (step.run == run) (left-differ run running (and-second (not (is_of_one step.run running)) (differ running) so))
  where
    none : is_of_one step.run (steps_without run running) ≡ false
    none = any-filtered (λ (one : DeskStep). one.run == step.run) (λ (one : DeskStep). not (one.run == run)) running (not-true (is_of_one step.run running) (and-first (not (is_of_one step.run running)) (differ running) so))

    by : (b : Bool) → differ (steps_without run running) ≡ true → differ (cond (not b) (step ∷ steps_without run running) (steps_without run running)) ≡ true
    by true rest = rest
    by false rest = and_from (not (is_of_one step.run (steps_without run running))) (differ (steps_without run running)) (ap not none) rest

-- those of the other runs stand
pub left-stand : (layout : Layout) (office : Office) (image : List ℕ) (run : ℕ) (seen : List RunningStepView) (running : List DeskStep) → AllStand layout office image seen running → AllStand layout office image (seen_without run seen) (steps_without run running)
left-stand layout office image run [] [] all = tt
left-stand layout office image run [] (step ∷ running) all = absurd all
left-stand layout office image run (on ∷ seen) [] all = absurd all
left-stand layout office image run (on ∷ seen) (step ∷ running) all =
    subst (λ (n : ℕ). AllStand layout office image (cond (not (n == run)) (on ∷ seen_without run seen) (seen_without run seen)) (cond (not (step.run == run)) (step ∷ steps_without run running) (steps_without run running))) (sym all.0.run)
    (by (step.run == run) (left-stand layout office image run seen running all.1))
  where
    by : (b : Bool) → AllStand layout office image (seen_without run seen) (steps_without run running)
        → AllStand layout office image (cond (not b) (on ∷ seen_without run seen) (seen_without run seen)) (cond (not b) (step ∷ steps_without run running) (steps_without run running))
    by true rest = rest
    by false rest = (all.0, rest)

-- the step in memory that stands for a running step
pub record StandsFor (layout : Layout) (office : Office) (image : List ℕ) (step : DeskStep) : Type 0 where
  pub on : RunningStepView
  pub stands : StandsForStep layout office image on step

pub found-stands : (layout : Layout) (office : Office) (image : List ℕ) (test : DeskStep → Bool) (seen : List RunningStepView) (running : List DeskStep) (step : DeskStep) → AllStand layout office image seen running → find test running ≡ Some step → StandsFor layout office image step
found-stands layout office image test [] [] step all found = absurd (some-not-none step (sym found))
found-stands layout office image test [] (first ∷ running) step all found = absurd all
found-stands layout office image test (on ∷ seen) [] step all found = absurd all
found-stands layout office image test (on ∷ seen) (first ∷ running) step all found = by (test first) found (λ found. found-stands layout office image test seen running step all.1 found)
  where
    by : (b : Bool) → cond b (Some first) (find test running) ≡ Some step → (find test running ≡ Some step → StandsFor layout office image step) → StandsFor layout office image step
    by true e later = subst (StandsFor layout office image) (same_Some first step e) (record { on = on; stands = all.0 })
    by false e later = later e

-- ---- a running step has no more records than there is space for

pub within-spaced : (layout : Layout) (office : Office) (number : ℕ) (row : RunRow) (leg : Leg) (owned : OwnedStep) (step from to : ℕ) → IsAgreed layout office → IsRunning office number row leg owned step from → AreWithinSpace leg.start → AreWithinSpace (within_at (its_start leg owned step) to)
within-spaced layout office number row leg owned step from to kept running spaced =
    within_at-within (its_start leg owned step) (distinct-step leg.job.root owned (formed_step layout office number row leg owned step from kept running)) to
    (subst (λ (standing : Stock LibrarySet). AreWithinSpace standing.sets) (at-before leg.job leg.start step)
    (at-within leg.job leg.start (Before step) (distinct-job leg.job (place_so layout office number row leg owned step from kept running).formed) spaced))

-- ---- a running step whose data sets and records stay

module _ (desk : DeskModel) (is : IsDesk desk) (later : Office) (before after : List ℕ) (same : HasSameRecords desk.layout before after)
    (on : RunningStepView) (step : DeskStep) (going : IsGoing desk.office step) (stands : StandsForStep desk.layout desk.office before on step) where
  mine : going.row ≡ stands.row
  mine = same_Some going.row stands.row (sym going.row_at ∙ stands.row_at)

  its : going.start ≡ stands.start
  its = same_Some going.start stands.start (sym going.start_at ∙ ap (start_in_office desk.office) mine ∙ stands.start_at)

  spaced_now : AreWithinSpace (within_at stands.start step.progress.writes)
  spaced_now =
      by-step desk is step.run going.row going.number going.committed going.start (going-within desk.office step going)
      (λ leg owned running starts spaced.
      subst (λ (s : StepStart). AreWithinSpace (within_at s step.progress.writes)) (sym starts ∙ its)
      (within-spaced desk.layout desk.office step.run going.row leg owned going.number going.committed step.progress.writes is.kept.events running spaced))

  -- its records stay on the disk
  records_there : (name : Name) (set : DataSet) (n : ℕ) → set_of on.sets name ≡ Some set → n ≤ set.space → records_on after desk.layout set n ≡ records_on before desk.layout set n
  records_there name set n own fits =
      let from = stands.sets.from name set own in
      let lies : LiesThere from.0 set = from.2 in
      let space : set.space ≡ from.0.set.space = lies.space in
      same_places after desk.layout from.0.set set lies.places n
      ∙ same from.0.set n (each-at (λ (table : TableSet). StandsIn desk.layout table.set) desk.office.tables.sets is.kept.events.extents.stand name from.0 from.1) (omega (arith, space, fits))
      ∙ sym (same_places before desk.layout from.0.set set lies.places n)

  shows_there : ShowsWithin (Unit {0}) after desk.layout stands.start step.progress.writes on.sets
  shows_there name model among e plain =
      let shown : IsShown (Unit {0}) before desk.layout model on.sets name = stands.shows name model among e plain in
      let few : length model.records ≤ model.space = each-at IsWithinSpace (within_at stands.start step.progress.writes) spaced_now name model e in
      let long : shown.set.length ≡ length model.records = shown.shows.length in
      let space : shown.set.space ≡ model.space = shown.shows.space in
      record {
        set = shown.set;
        is = shown.is;
        shows = record {
          lrecl = shown.shows.lrecl;
          space = shown.shows.space;
          length = shown.shows.length;
          records = λ told. records_there name shown.set shown.set.length shown.is (omega (arith, few, long, space)) ∙ shown.shows.records told;
        };
      }

  -- it stands by a later row of its run, of the same start
  pub still-stands : (row : RunRow) → run_of later.tables step.run ≡ Some row → start_in_office later row ≡ Some stands.start
      → ((name : Name) → is_among (names_of stands.start.root stands.start.owned) name ≡ true → entry_at later.tables.sets name ≡ entry_at desk.office.tables.sets name)
      → StandsForStep desk.layout later after on step
  still-stands row row_there start_there entries = record {
    row = row;
    row_at = row_there;
    start = stands.start;
    start_at = start_there;
    run = stands.run;
    code = stands.code;
    stands = stands.stands;
    served = stands.served;
    ordered = stands.ordered;
    writes = stands.writes;
    stopped = stands.stopped;
    sets = record {
      from = λ name set own. let from = stands.sets.from name set own in (from.0, entries name (stands.named name set own) ∙ from.1, from.2);
      each = λ name table among e. stands.sets.each name table among (sym (entries name among) ∙ e);
    };
    named = stands.named;
    shows = shows_there;
    checked = λ name table set e own content. stands.checked name table set (sym (entries name (stands.named name set own)) ∙ e) own content;
  }

-- ---- the running step of another run

module _ (desk : DeskModel) (is : IsDesk desk) (later : Office) (run : ℕ) (leaves : LeavesRuns desk.office later run) (others : LeavesOthers desk.office run later)
    (before after : List ℕ) (same : HasSameRecords desk.layout before after) where
  module _ (on : RunningStepView) (step : DeskStep) (going : IsGoing desk.office step) (apart : step.run ≢ run) (stands : StandsForStep desk.layout desk.office before on step) where
    -- its data sets stay in the tables
    entries : (name : Name) → is_among (names_of stands.start.root stands.start.owned) name ≡ true → entry_at later.tables.sets name ≡ entry_at desk.office.tables.sets name
    entries name among =
        by-step desk is step.run going.row going.number going.committed going.start (going-within desk.office step going)
        (λ leg owned running starts spaced.
        others-of-step desk.layout desk.office later run step.run going.row leg owned going.number going.committed name is.kept.events others running apart
        (ap (λ (s : StepStart). is_among (names_of s.root s.owned) name) (sym starts ∙ its desk is later before after same on step going stands) ∙ among))

    start_there : start_in_office later stands.row ≡ Some stands.start
    start_there =
        ap (λ (o : Option Leg). option_map_or (λ leg. start_at leg.job leg.start (step_in (place_of stands.row))) o None)
        (leaves.legs stands.row.number (λ e. apart (sym (is.kept.events.numbered step.run stands.row stands.row_at) ∙ e)))
        ∙ stands.start_at

    pub step-stands : StandsForStep desk.layout later after on step
    step-stands =
        still-stands desk is later before after same on step going stands stands.row (leaves.rows step.run apart ∙ stands.row_at) start_there entries

  -- ---- all of them

  pub others-stand : (seen : List RunningStepView) (running : List DeskStep) → AllByRecursion (IsGoing desk.office) running → is_of_one run running ≡ false → AllStand desk.layout desk.office before seen running → AllStand desk.layout later after seen running
  others-stand [] [] going none all = tt
  others-stand [] (step ∷ running) going none all = absurd all
  others-stand (on ∷ seen) [] going none all = absurd all
  others-stand (on ∷ seen) (step ∷ running) going none all =
      by (step.run == run) refl none (λ none. others-stand seen running going.1 none all.1)
    where
      by : (b : Bool) → (step.run == run) ≡ b → (b || is_of_one run running) ≡ false → (is_of_one run running ≡ false → AllStand desk.layout later after seen running) → AllStand desk.layout later after (on ∷ seen) (step ∷ running)
      by true isnt none rest = absurd (false≢true (sym none))
      by false isnt none rest = (step-stands on step going.0 (equal-false step.run run isnt) all.0, rest none)

  -- those of the other runs stand behind the event
  pub rest-stand : (seen : List RunningStepView) (running : List DeskStep) → AllByRecursion (IsGoing desk.office) running → AllStand desk.layout desk.office before (seen_without run seen) (steps_without run running) → AllStand desk.layout later after (seen_without run seen) (steps_without run running)
  rest-stand seen running going all =
      others-stand (seen_without run seen) (steps_without run running) (left-each (IsGoing desk.office) run running going) (left-none run running) all

-- a running step isn't of a run that is on no initiator
pub none-waits : (office : Office) (run : ℕ) (running : List DeskStep) → AllByRecursion (IsGoing office) running → ((row : RunRow) → run_of office.tables run ≡ Some row → row.state ≡ On → ⊥) → is_of_one run running ≡ false
none-waits office run [] going waits = refl
none-waits office run (step ∷ running) going waits =
    by (step.run == run) refl (none-waits office run running going.1 waits)
  where
    by : (b : Bool) → (step.run == run) ≡ b → is_of_one run running ≡ false → (b || is_of_one run running) ≡ false
    by true same rest = absurd (waits going.0.row (ap (run_of office.tables) (sym (equal-true step.run run same)) ∙ going.0.row_at) going.0.on)
    by false isnt rest = rest

-- behind an event of a run that was on no initiator all of them stand
pub all-stand : (desk : DeskModel) (is : IsDesk desk) (later : Office) → Enters desk.office later → (before after : List ℕ) → HasSameRecords desk.layout before after → (seen : List RunningStepView) (running : List DeskStep) → AllByRecursion (IsGoing desk.office) running → AllStand desk.layout desk.office before seen running → AllStand desk.layout later after seen running
all-stand desk is later enters before after same seen running going all =
    others-stand desk is later enters.run enters.leaves (λ number row leg name holder apart among. ap (λ sets. entry_at sets name) enters.sets) before after same seen running going
    (none-waits desk.office enters.run running going enters.waits) all
