-- The jobs in memory go on to hold their own.
use Rattle.std.proofs.Common.{◌≡◌, ◌+◌, ◌==◌, ℕ, suc, Bool, true, false, cond, not, List, [], ◌∷◌, find, refl, ap, sym, ◌∙◌, subst, Option, Some, None}
use Rattle.std.specs.List.{AllByRecursion}
use Rattle.std.specs.Option.{option_map, option_map_or}
use Rattle.std.specs.Prelude.{IfSome}
use Rattle.ckr_base.proofs.Numbers.{equal-false, equal-true}
use Rattle.ckr_base.proofs.Sequences.{find-holds, find-passes}
use Rattle.ckr_events.specs.declared.event.Event.{Event}
use Rattle.ckr_events.specs.declared.event.Event.TheVariants.{Cancelled, Checkpointed, Ended, Held, Restarted, Selected, Started, StepEnded}
use Rattle.ckr_events.specs.declared.event.Made.{Made}
use Rattle.ckr_jcl.specs.declared.deck.Job.{Job}
use Rattle.ckr_library.specs.Catalog.{records_of}
use Rattle.ckr_library.specs.NameMaps.{Name}
use Rattle.ckr_meaning.specs.EffectiveJob.{OwnedStep}
use Rattle.ckr_points.specs.Follows.{follows, own_step}
use Rattle.ckr_points.specs.Restart.{after_event}
use Rattle.ckr_points.specs.Rows.{RunRow, TablesModel, no_tables, run_of}
use Rattle.ckr_points.specs.Tables.{after_started}
use Rattle.ckr_points_tables.specs.Invariant.{MaySubmit}
use Rattle.ckr_points_tables.specs.View.{RoomyTables}
use Rattle.ckr_volumes.specs.declared.layout.Layout.{Layout}
use Rattle.ckr_desk_memory.proofs.Holders.Events.{holders-none, holders-stay, no-row}
use Rattle.ckr_desk_memory.proofs.Holders.Moves.{row-as_is, row-next}
use Rattle.ckr_desk_memory.proofs.Holders.OwnSets.{running-served}
use Rattle.ckr_desk_memory.proofs.Holders.Points.{points-stay}
use Rattle.ckr_desk_memory.proofs.Holders.RunningSteps.{running-stay}
use Rattle.ckr_desk_memory.proofs.RunningSteps.Again.{again-cases, is-back}
use Rattle.ckr_base.specs.declared.code.Code.{Code}
use Rattle.ckr_base.proofs.Options.{some-not-none}
use Rattle.ckr_desk_memory.proofs.Replays.{any_accepted, any_submits, goes-on-with}
use Rattle.ckr_desk_memory.proofs.RunningSteps.First.{all-without}
use Rattle.ckr_desk_memory.proofs.RunningSteps.TakenSteps.{is-taken}
use Rattle.ckr_desk_plans.specs.declared.running_step.RunningStep.{RunningStep}
use Rattle.ckr_desk_memory.specs.EventChanges.{FirstEnters, HasEntered, check_name_in, is_of_run, is_point_of, points_behind, served_in, served_step, without_first, without_run}
use Rattle.ckr_desk_memory.specs.Holders.{AreHolders}
use Rattle.ckr_desk_memory.specs.Invariant.{AreJobs, IsAcceptedRow, IsAnyAccepted, IsPlacedRow}
use Rattle.ckr_desk_memory.specs.OwnSets.{CommitsItsOwn, IsRunningOf}
use Rattle.ckr_desk_memory.specs.OwnSteps.{AreSingle, HavePoints, HoldTheirOwn, IsOfOther, KnowsItsPoint}
use Rattle.ckr_desk_memory.specs.Parts.{step_seen}
use Rattle.ckr_desk_memory.specs.Replay.{IsBounded, deck_of, goes_on}
use Rattle.ckr_desk_memory.specs.RunningSteps.{GoesOn, StepGoesBack, StepStarts}
use Rattle.ckr_desk_memory.specs.Start.{HasNew}
use Rattle.ckr_desk_memory.specs.View.{JobsView, PointView, RunningStepView, begun}
use Rattle.ckr_desk_turn.specs.Queue.{AreNumbered}
use Rattle.ckr_desk_turn.proofs.Queue.Events.{run_number}
use Rattle.ckr_desk_memory.proofs.EventRows.{IsStarting, by-started}

-- ---- no two running steps are of one run

single-first : (run : ℕ) (running : List RunningStepView) → AreSingle running → AreSingle (without_first run running)
single-first run [] single = tt
single-first run (on ∷ rest) single = by (is_of_run run on) (single-first run rest single.1)
  where
    by : (b : Bool) → AreSingle (without_first run rest) → AreSingle (cond b rest (on ∷ without_first run rest))
    by true later = single.1
    by false later = (all-without (IsOfOther on.run) run rest single.0, later)

-- those without the first one of a run are of others
pub others-first : (run : ℕ) (running : List RunningStepView) → AreSingle running → AllByRecursion (IsOfOther run) (without_first run running)
others-first run [] single = tt
others-first run (on ∷ rest) single = by (is_of_run run on) refl (others-first run rest single.1)
  where
    by : (b : Bool) → is_of_run run on ≡ b → AllByRecursion (IsOfOther run) (without_first run rest) → AllByRecursion (IsOfOther run) (cond b rest (on ∷ without_first run rest))
    by true e later = subst (λ n. AllByRecursion (IsOfOther n) rest) (equal-true on.run run e) single.0
    by false e later = (equal-false on.run run e, later)

all-left : (P : RunningStepView → Type 0) (run : ℕ) (running : List RunningStepView) → AllByRecursion P running → AllByRecursion P (without_run run running)
all-left P run [] all = tt
all-left P run (on ∷ rest) all = by (on.run == run) (all-left P run rest all.1)
  where
    by : (b : Bool) → AllByRecursion P (without_run run rest) → AllByRecursion P (cond (not b) (on ∷ without_run run rest) (without_run run rest))
    by true later = later
    by false later = (all.0, later)

single-left : (run : ℕ) (running : List RunningStepView) → AreSingle running → AreSingle (without_run run running)
single-left run [] single = tt
single-left run (on ∷ rest) single = by (on.run == run) (single-left run rest single.1)
  where
    by : (b : Bool) → AreSingle (without_run run rest) → AreSingle (cond (not b) (on ∷ without_run run rest) (without_run run rest))
    by true later = later
    by false later = (all-left (IsOfOther on.run) run rest single.0, later)

others-left : (run : ℕ) (running : List RunningStepView) → AllByRecursion (IsOfOther run) (without_run run running)
others-left run [] = tt
others-left run (on ∷ rest) = by (on.run == run) refl (others-left run rest)
  where
    by : (b : Bool) → (on.run == run) ≡ b → AllByRecursion (IsOfOther run) (without_run run rest) → AllByRecursion (IsOfOther run) (cond (not b) (on ∷ without_run run rest) (without_run run rest))
    by true e later = later
    by false e later = (equal-false on.run run e, later)

single-served : (run : ℕ) (running : List RunningStepView) → AreSingle running → AreSingle (served_in run running)
single-served run running single = by (find (is_of_run run) running) refl
  where
    by : (first : Option RunningStepView) → find (is_of_run run) running ≡ first → AreSingle (option_map_or (λ on. served_step on ∷ without_first run running) first running)
    by None e = single
    by (Some on) e = (
      subst (λ n. AllByRecursion (IsOfOther n) (without_first run running)) (sym (equal-true on.run run (find-passes (is_of_run run) running on e))) (others-first run running single),
      single-first run running single,
    )

single-entered : (run : ℕ) (check : Option Name) (most : ℕ) (old new : List RunningStepView) → AreSingle old → HasEntered run check most old new → AreSingle new
single-entered run check most old new single goes = by (find (is_of_run run) old) refl goes
  where
    by : (first : Option RunningStepView) → find (is_of_run run) old ≡ first → FirstEnters first run check most old new → AreSingle new
    by None e same = subst AreSingle (sym same) single
    by (Some on) e goes =
        subst AreSingle (sym goes.1) (
          subst (λ n. AllByRecursion (IsOfOther n) (without_first run old)) (sym (goes.2.run ∙ equal-true on.run run (find-passes (is_of_run run) old on e))) (others-first run old single),
          single-first run old single,
        )

-- a step that goes on from its run's point is the only one of its run
again-single : (after : TablesModel) (job : ℕ) (next : RunRow) (owned : OwnedStep) (points : List PointView) (old new : List RunningStepView) → run_of after job ≡ Some next → own_step next ≡ Some owned → AreSingle old
    → StepGoesBack (find (is_point_of job) points) job after old new → AreSingle new
again-single after job next owned points old new at found single goes =
    again-cases after job next owned points old new at found goes
    (λ gone. subst AreSingle (sym gone) (single-left job old single))
    (λ point is new_one.
    subst AreSingle (sym new_one.starts.first)
    (subst (λ n. AllByRecursion (IsOfOther n) (without_run job old)) (sym new_one.starts.run) (others-left job old), single-left job old single))

-- ---- each event

module _ (layout : Layout) (tables : TablesModel) (rows : AllByRecursion IsAcceptedRow tables.runs) (numbered : AreNumbered 1 tables.runs) (placed : AllByRecursion IsPlacedRow tables.runs) where
  abbrev StartsAlone : ℕ → ℕ → List RunningStepView → List RunningStepView → TablesModel → Type 0
  StartsAlone job step old new after = StepStarts job step after old new → AreSingle new

  started : (job step : ℕ) (items : List Made) (old new : List RunningStepView) → AreSingle old → (row : RunRow) (owned : OwnedStep) → IsStarting layout tables job step items row owned → StartsAlone job step old new (after_started row owned step items tables)
  started job step items old new single row owned its starts =
      let after : TablesModel = after_started row owned step items tables in
      let now = (row-next tables tables job row _ after.sets (row-as_is tables job row its.row_at) (run_number tables job row numbered its.row_at)).now in
      let new_one : HasNew job row.job.root owned (begun row.job.root owned) after.sets old new = starts _ owned now its.found in
      subst AreSingle (sym new_one.first)
      (subst (λ n. AllByRecursion (IsOfOther n) (without_run job old)) (sym new_one.run) (others-left job old), single-left job old single)

  again : (job initiator : ℕ) (code : Code) (deck : Option Job) (points : List PointView) (old new : List RunningStepView) → follows layout tables (Restarted job initiator code true) deck ≡ true → AreSingle old
      → StepGoesBack (find (is_point_of job) points) job (after_event (Restarted job initiator code true) deck tables) old new → AreSingle new
  again job initiator code deck points old new follow single goes =
      let back = is-back layout tables job initiator code deck numbered placed follow in
      again-single (after_event (Restarted job initiator code true) deck tables) job back.next back.owned points old new back.next_at back.found single goes

  -- so does a run that goes on with an earlier one at a checkpoint
  taken : (job initiator before step : ℕ) (id : Name) (deck : Option Job) (points : List PointView) (old new : List RunningStepView) → follows layout tables (Selected job initiator (suc before) step (Some id)) deck ≡ true → AreSingle old
      → StepGoesBack (find (is_point_of job) points) job (after_event (Selected job initiator (suc before) step (Some id)) deck tables) old new → AreSingle new
  taken job initiator before step id deck points old new follow single goes =
      let over = is-taken layout tables job initiator before step id deck numbered follow in
      again-single (after_event (Selected job initiator (suc before) step (Some id)) deck tables) job over.next over.owned points old new over.next_at over.found single goes

  single_on : (event : Event) (deck : Option Job) (points : List PointView) (old new : List RunningStepView) → follows layout tables event deck ≡ true → AreSingle old → GoesOn event (after_event event deck tables) points old new → AreSingle new
  single_on (Started job step items) deck points old new follow single goes = by-started (StartsAlone job step old new) layout tables job deck step items follow (started job step items.items old new single) goes
  single_on (Checkpointed job id taken writes lengths place bytes) deck points old new follow single goes =
      single-entered job (check_name_in (after_event (Checkpointed job id taken writes lengths place bytes) deck tables) job) (place + records_of bytes) old new single goes
  single_on (Cancelled job) deck points old new follow single goes = subst AreSingle (sym goes) (single-served job old single)
  single_on (StepEnded job step rc writes lengths) deck points old new follow single goes = subst AreSingle (sym goes) (single-left job old single)
  single_on (Restarted job initiator code true) deck points old new follow single goes = again job initiator code deck points old new follow single goes
  single_on (Restarted job initiator code false) deck points old new follow single goes = subst AreSingle (sym goes) (single-left job old single)
  single_on (Held job code writes lengths) deck points old new follow single goes = subst AreSingle (sym goes) (single-left job old single)
  single_on (Ended job ending) deck points old new follow single goes = subst AreSingle (sym goes) (single-left job old single)
  single_on (Selected job initiator (suc before) step (Some id)) deck points old new follow single goes = taken job initiator before step id deck points old new follow single goes
  single_on _ deck points old new follow single goes = subst AreSingle (sym goes) single

-- ---- the jobs

-- no step is running
pub own-opened : (jobs : JobsView) → AreHolders jobs.tables.desk → jobs.running ≡ [] → HavePoints jobs.tables.desk jobs.points → HoldTheirOwn jobs
own-opened jobs holders running points = record {
  points = points;
  holders = holders;
  running = subst (AllByRecursion (IsRunningOf jobs.tables.desk)) (sym running) tt;
  single = subst AreSingle (sym running) tt;
}

-- no jobs
pub own-none : (jobs : JobsView) → jobs.tables.desk ≡ no_tables → jobs.running ≡ [] → HoldTheirOwn jobs
own-none jobs tables running =
    own-opened jobs (subst AreHolders (sym tables) holders-none) running
    (subst (λ (t : TablesModel). HavePoints t jobs.points) (sym tables) (λ number row owned at. absurd (some-not-none row (sym at ∙ no-row number))))

-- the same tables, the same running steps, and the same points
pub own-alike : (old new : JobsView) → new.tables.desk ≡ old.tables.desk → new.running ≡ old.running → new.points ≡ old.points → HoldTheirOwn old → HoldTheirOwn new
own-alike old new tables running points own = record {
  points = subst (λ (t : TablesModel). HavePoints t new.points) (sym tables) (subst (HavePoints old.tables.desk) (sym points) own.points);
  holders = subst AreHolders (sym tables) own.holders;
  running = subst (λ (t : TablesModel). AllByRecursion (IsRunningOf t) new.running) (sym tables) (subst (AllByRecursion (IsRunningOf old.tables.desk)) (sym running) own.running);
  single = subst AreSingle (sym running) own.single;
}

-- behind an event
pub own-behind : (layout : Layout) (old new : JobsView) (event : Event) (deck : Option Job) → AllByRecursion IsAcceptedRow old.tables.desk.runs → AreNumbered 1 old.tables.desk.runs → AllByRecursion IsPlacedRow old.tables.desk.runs → IsAnyAccepted event deck → MaySubmit event deck
    → new.tables.desk ≡ after_event event deck old.tables.desk → GoesOn event new.tables.desk old.points old.running new.running → new.points ≡ points_behind event new.running old.points → HoldTheirOwn old → follows layout old.tables.desk event deck ≡ true → KnowsItsPoint event old.tables.desk old.points → CommitsItsOwn event old.tables.desk old.running → HoldTheirOwn new
own-behind layout old new event deck rows numbered placed accepted may tables goes points own follow knows commits =
    let gone : GoesOn event (after_event event deck old.tables.desk) old.points old.running new.running = subst (λ (t : TablesModel). GoesOn event t old.points old.running new.running) tables goes in
    let running : AllByRecursion (IsRunningOf (after_event event deck old.tables.desk)) new.running =
    running-stay layout old.tables.desk event deck old.points old.running new.running own.holders rows numbered placed accepted may follow own.running own.points knows commits gone in
    record {
      holders = subst AreHolders (sym tables) (holders-stay layout old.tables.desk event deck own.holders rows numbered placed accepted may follow);
      running = subst (λ (t : TablesModel). AllByRecursion (IsRunningOf t) new.running) (sym tables) running;
      single = single_on layout old.tables.desk rows numbered placed event deck old.points old.running new.running follow own.single gone;
      points =
          subst (λ (t : TablesModel). HavePoints t new.points) (sym tables)
          (subst (HavePoints (after_event event deck old.tables.desk)) (sym points)
          (points-stay layout old.tables.desk event deck old.points old.running new.running rows numbered placed follow own.points knows commits gone running));
    }

-- with other running steps, and the same tables
module _ (old new : JobsView) (tables : new.tables ≡ old.tables) (points : new.points ≡ old.points) where
  same_desk : new.tables.desk ≡ old.tables.desk
  same_desk = ap (λ (t : RoomyTables). t.desk) tables

  own_as : HoldTheirOwn old → AllByRecursion (IsRunningOf old.tables.desk) new.running → AreSingle new.running → HoldTheirOwn new
  own_as own running single = record {
    points = subst (λ (t : TablesModel). HavePoints t new.points) (sym same_desk) (subst (HavePoints old.tables.desk) (sym points) own.points);
    holders = subst AreHolders (sym same_desk) own.holders;
    running = subst (λ (t : TablesModel). AllByRecursion (IsRunningOf t) new.running) (sym same_desk) running;
    single = single;
  }

  pub own-without : (run : ℕ) → new.running ≡ without_first run old.running → HoldTheirOwn old → HoldTheirOwn new
  own-without run running own =
      own_as own (subst (AllByRecursion (IsRunningOf old.tables.desk)) (sym running) (all-without (IsRunningOf old.tables.desk) run old.running own.running))
      (subst AreSingle (sym running) (single-first run old.running own.single))

  pub own-put : (on : RunningStepView) → new.running ≡ on ∷ old.running → HoldTheirOwn old → IsRunningOf old.tables.desk on → AllByRecursion (IsOfOther on.run) old.running → HoldTheirOwn new
  own-put on running own is others =
      own_as own (subst (AllByRecursion (IsRunningOf old.tables.desk)) (sym running) (is, own.running)) (subst AreSingle (sym running) (others, own.single))

  pub own-served : (run : ℕ) → new.running ≡ served_in run old.running → HoldTheirOwn old → HoldTheirOwn new
  own-served run running own =
      own_as own (subst (AllByRecursion (IsRunningOf old.tables.desk)) (sym running) (by (find (is_of_run run) old.running) refl))
      (subst AreSingle (sym running) (single-served run old.running own.single))
    where
      by : (first : Option RunningStepView) → find (is_of_run run) old.running ≡ first
          → AllByRecursion (IsRunningOf old.tables.desk) (option_map_or (λ on. served_step on ∷ without_first run old.running) first old.running)
      by None e = own.running
      by (Some on) e = (
        running-served old.tables.desk on (find-holds (IsRunningOf old.tables.desk) (is_of_run run) old.running on own.running e),
        all-without (IsRunningOf old.tables.desk) run old.running own.running,
      )

-- the first running step of a run, if there is one, is that of its run
pub step-own : (run : ℕ) (jobs : JobsView) (taken : Option RunningStep) → HoldTheirOwn jobs → option_map step_seen taken ≡ find (is_of_run run) jobs.running → IfSome taken (λ on. IsRunningOf jobs.tables.desk (step_seen on))
step-own run jobs None own is = tt
step-own run jobs (Some on) own is = find-holds (IsRunningOf jobs.tables.desk) (is_of_run run) jobs.running (step_seen on) own.running (sym is)

-- the runs stay apart behind an event that is read again
pub holders-replayed : (layout : Layout) (old new : JobsView) (event : Event) → IsBounded event → AreNumbered 1 old.tables.desk.runs → goes_on layout old.tables.desk event (deck_of event) ≡ true → new.tables.desk ≡ after_event event (deck_of event) old.tables.desk
    → AreJobs layout old → AreHolders old.tables.desk → AreHolders new.tables.desk
holders-replayed layout old new event bounded numbered goes tables are holders =
    let its = goes-on-with layout old.tables.desk event (deck_of event) goes in
    subst AreHolders (sym tables) (holders-stay layout old.tables.desk event (deck_of event) holders are.rows numbered are.placed (any_accepted event bounded) (any_submits event its.few) its.follow)
