-- The running steps go on by an event.
use Rattle.std.proofs.Common.{◌≡◌, ◌==◌, ◌≤◌, ◌<◌, ◌+◌, ℕ, zero, suc, true, false, not, List, map, length, refl, ap, sym, ◌∙◌, subst, Option, None, Some, arith, slice_get}
use Rattle.std.proofs.lemmas.Option.{same_Some, slice_get-map, slice_get_within}
use Rattle.std.specs.List.{AllByRecursion}
use Rattle.std.specs.Option.{option_map}
use Rattle.std.specs.Prelude.{IfSome, find}
use Rattle.ckr_desk_plans.specs.StepTypes.StepRun.{StepRun}
use Rattle.ckr_base.proofs.Options.{some-not-none, some-one}
use Rattle.ckr_base.specs.declared.code.Code.{Code}
use Rattle.arrayvec.specs.ArrayVec.{ArrayVec}
use Rattle.ckr_events.specs.declared.event.Event.{Event}
use Rattle.ckr_events.specs.declared.event.Event.TheVariants.{Selected, Started, Checkpointed, Cancelled, StepEnded, Restarted, Held, Ended}
use Rattle.ckr_events.specs.declared.event.Made.{Made}
use Rattle.ckr_jcl.specs.declared.deck.Job.{Job}
use Rattle.ckr_library.specs.Catalog.{records_of}
use Rattle.ckr_library.specs.NameMaps.{Name}
use Rattle.ckr_meaning.specs.EffectiveJob.{Effective, OwnedStep, names_of, step_at}
use Rattle.ckr_volumes.specs.declared.layout.Layout.{Layout}
use Rattle.ckr_points.specs.Follows.{follows, own_step}
use Rattle.ckr_points.specs.Restart.{after_event, place_of, step_in}
use Rattle.ckr_points.specs.Rows.{RunRow, TablesModel, holding_of, run_of, step_of_run}
use Rattle.ckr_points.specs.Soundness.{AreLaidOut}
use Rattle.ckr_desk_plans.specs.Model.StepUnit.{AreCounted}
use Rattle.ckr_points_tables.specs.View.{seen_by}
use Rattle.ckr_desk_turn.specs.Queue.{AreNumbered}
use Rattle.ckr_desk_plans.specs.declared.running_step.RunningStep.{RunningStep}
use Rattle.ckr_desk_memory.specs.EventChanges.{check_name_in, is_point_of}
use Rattle.ckr_desk_memory.specs.RunningSteps.{GoesOn, IsStartedFrom, MayGoBack, MayLookUp, MayRun, StepGoesBack}
use Rattle.ckr_desk_memory.specs.Invariant.{AreJobs, IsAcceptedRow, IsAnyAccepted, IsPlacedRow, IsRunnable}
use Rattle.ckr_desk_memory.specs.Preparation.{HasAgain, HasStarted, HasStep, HasTaken, IsEmpty, IsResumed, StandsEmpty}
use Rattle.ckr_desk_memory.specs.Start.{HasNew, has_sets, AllFit}
use Rattle.ckr_desk_memory.specs.View.{JobsView, PointView, RunningStepView, begun as at_first, resumed}
use Rattle.ckr_desk_memory.proofs.RunningSteps.Again.{again-cases, is-back}
use Rattle.ckr_desk_memory.proofs.AcceptedRuns.{accepted-behind}
use Rattle.ckr_desk_memory.proofs.Invariant.{all-filtered, placed-behind}
use Rattle.ckr_desk_memory.proofs.RunNumbers.{numbered-behind}
use Rattle.ckr_desk_memory.proofs.Extents.{laid-behind}
use Rattle.ckr_desk_memory.proofs.RunningSteps.Entries.{entered-all}
use Rattle.ckr_desk_memory.proofs.RunningSteps.Served.{served-runnable}
use Rattle.ckr_desk_memory.proofs.RunningSteps.TakenSteps.{is-taken}
use Rattle.ckr_desk_memory.proofs.Runs.{Kind, kind_of, runs-stay, numbers-stay}
use Rattle.ckr_desk_memory.proofs.Starts.Names.{has-among}
use Rattle.ckr_desk_memory.proofs.Starts.Sets.{is-runnable, runnable-at}
use Rattle.ckr_desk_memory.proofs.SetCopies.{all-fit}
use Rattle.ckr_desk_memory.proofs.EventRows.{by-restarted, by-started, row-selected}
use Rattle.ckr_points_tables.specs.Invariant.{is_submission}
use Rattle.ckr_events.specs.Jobs.{job_of}

-- ---- a row in other tables whose runs are the same

record IsSameRow (tables : TablesModel) (job : ℕ) (row : RunRow) : Type 0 where
  next : RunRow
  at : run_of tables job ≡ Some next
  same : kind_of next ≡ kind_of row

same_row_in : (one other : TablesModel) → map kind_of one.runs ≡ map kind_of other.runs → (job : ℕ) (row : RunRow) → run_of other job ≡ Some row → IsSameRow one job row
same_row_in one other same zero row at = absurd (some-not-none row (sym at))
same_row_in one other same (suc place) row at =
    by (slice_get one.runs place) refl
    (sym (slice_get-map kind_of one.runs place) ∙ ap (λ (ks : List Kind). slice_get ks place) same ∙ slice_get-map kind_of other.runs place ∙ ap (option_map kind_of) at)
  where
    by : (found : Option RunRow) → slice_get one.runs place ≡ found → option_map kind_of found ≡ Some (kind_of row) → IsSameRow one (suc place) row
    by None at is = absurd (some-not-none (kind_of row) (sym is))
    by (Some next) at is = record { next = next; at = at; same = same_Some (kind_of next) (kind_of row) is }

same_step : (one other : RunRow) (step : ℕ) (owned : OwnedStep) → kind_of one ≡ kind_of other → step_of_run other step ≡ Some owned → step_of_run one step ≡ Some owned
same_step one other step owned same at = ap (λ (k : Kind). step_at k.2 step) same ∙ at

-- the step that was prepared is that of the tables behind the event too
step_behind : (one other : TablesModel) → map kind_of one.runs ≡ map kind_of other.runs → (job step : ℕ) (begun : Option RunningStep) → HasStep other job step begun → HasStep one job step begun
step_behind one other same job step begun has = λ row owned at there.
    let its = same_row_in other one (sym same) job row at in
    subst (λ root. (on : RunningStep) × (begun ≡ Some on) × StandsEmpty job (at_first root owned) on) (ap (λ (k : Kind). k.2.root) its.same)
    (has its.next owned its.at (same_step its.next row step owned its.same there))

row_within : (tables : TablesModel) (job : ℕ) (row : RunRow) → run_of tables job ≡ Some row → job ≤ length tables.runs
row_within tables zero row at = absurd (some-not-none row (sym at))
row_within tables (suc place) row at = let within = slice_get_within tables.runs place row at in omega arith

-- ---- what an event asks of the running steps

module _ (layout : Layout) (old : TablesModel) (numbered : AreNumbered 1 old.runs) (rows : AllByRecursion IsAcceptedRow old.runs) (laid : AreLaidOut layout old.sets) (placed : AllByRecursion IsPlacedRow old.runs) where
  -- runs may be looked up behind it
  look_up_may : (event : Event) (deck : Option Job) → is_submission event ≡ false → IsAnyAccepted event deck → follows layout old event deck ≡ true → length old.runs ≤ 9999999 → MayLookUp (after_event event deck old)
  look_up_may event deck other accepted follow few = record {
    few = subst (λ n. n ≤ 9999999) (sym (numbers-stay old numbered layout event deck other follow).long) few;
    rows = accepted-behind layout old event deck numbered accepted follow rows;
    numbered = numbered-behind layout old event deck follow numbered;
  }

  fit_behind : (event : Event) (deck : Option Job) → follows layout old event deck ≡ true → AllFit (seen_by holding_of (after_event event deck old).sets)
  fit_behind event deck follow = all-fit layout (after_event event deck old).sets (seen_by holding_of (after_event event deck old).sets) (laid-behind layout old laid event deck follow) refl

  started_may : (job step : ℕ) (items : ArrayVec Made) (deck : Option Job) (begun : Option RunningStep) (room : ℕ) → follows layout old (Started job step items) deck ≡ true → length old.runs ≤ 9999999 → IfSome begun (IsEmpty job) → HasStep old job step begun → 0 < room
      → MayRun (Started job step items) (after_event (Started job step items) deck old) begun room
  started_may job step items deck begun room follow few empty has some =
      let within = by-started (λ after. job ≤ length old.runs) layout old job deck step items follow (λ row owned its. row_within old job row its.row_at) in
      let may = look_up_may (Started job step items) deck refl tt follow few in
      record {
        few = omega arith;
        empty = empty;
        prepared = step_behind (after_event (Started job step items) deck old) old (runs-stay old numbered (Started job step items) deck refl refl) job step begun has;
        rows = may.rows;
        numbered = may.numbered;
        fit = fit_behind (Started job step items) deck follow;
        some = some;
      }

  -- a run may go on from its point
  back_may : (event : Event) (deck : Option Job) (again : Option RunningStep) (room : ℕ) → is_submission event ≡ false → IsAnyAccepted event deck → follows layout old event deck ≡ true → job_of event ≤ length old.runs → length old.runs ≤ 9999999
      → IfSome again (IsEmpty (job_of event)) → 0 < room → MayGoBack (job_of event) (after_event event deck old) again room
  back_may event deck again room other accepted follow within few empty some =
      let may = look_up_may event deck other accepted follow few in
      record { few = may.few; within = omega (arith, within, few); empty = empty; rows = may.rows; numbered = may.numbered; fit = fit_behind event deck follow; some = some }

  may : (event : Event) (deck : Option Job) (begun : Option RunningStep) (jobs : JobsView) → jobs.tables.desk ≡ old → follows layout old event deck ≡ true → length old.runs ≤ 9999999 → HasStarted event jobs begun → MayRun event (after_event event deck old) begun jobs.running_room
  may (Started job step items) deck begun jobs is follow few has =
      started_may job step items deck begun jobs.running_room follow few has.empty (subst (λ t. HasStep t job step begun) is has.step) has.room
  may (Selected job initiator (suc before) step (Some id)) deck begun jobs is follow few has =
      back_may (Selected job initiator (suc before) step (Some id)) deck begun jobs.running_room refl tt follow
      (row-selected layout old job deck initiator (suc before) step (Some id) follow (λ row its. row_within old job row its.row_at)) few has.empty has.room
  may (Restarted job initiator code true) deck begun jobs is follow few has =
      back_may (Restarted job initiator code true) deck begun jobs.running_room refl tt follow
      (by-restarted (λ after. job ≤ length old.runs) layout old job deck initiator code true follow (λ row its. row_within old job row its.row_at)) few has.empty has.room
  may (Restarted job initiator code false) deck begun jobs is follow few has = tt
  may (Checkpointed job id taken writes lengths place bytes) deck begun jobs is follow few has = look_up_may (Checkpointed job id taken writes lengths place bytes) deck refl tt follow few
  may _ deck begun jobs is follow few has = tt

  -- ---- the running steps behind it can go on

  started_runnable : (job step : ℕ) (items : ArrayVec Made) (deck : Option Job) (begun : Option RunningStep) (points : List PointView) (before now : List RunningStepView) → follows layout old (Started job step items) deck ≡ true → HasStep old job step begun
      → GoesOn (Started job step items) (after_event (Started job step items) deck old) points before now → AllByRecursion (IsRunnable layout) before → AllByRecursion (IsRunnable layout) now
  started_runnable job step items deck begun points before now follow has goes all =
      let after : TablesModel = after_event (Started job step items) deck old in
      by-started (λ other. AllByRecursion (IsRunnable layout) now) layout old job deck step items follow
      (λ row owned its.
      let next = same_row_in after old (runs-stay old numbered (Started job step items) deck refl refl) job row its.row_at in
      let new = subst (λ root. HasNew job root owned (at_first root owned) after.sets before now) (ap (λ (k : Kind). k.2.root) next.same) (goes next.next owned next.at (same_step next.next row step owned next.same its.found)) in
      let prepared = has row owned its.row_at its.found in
      subst (AllByRecursion (IsRunnable layout)) (sym new.first) (
        is-runnable layout old job step items deck row owned new.on rows its (laid-behind layout old laid (Started job step items) deck follow) new.step
            (subst AreCounted (prepared.2.step ∙ sym new.step) prepared.2.counted) new.sets new.code,
        all-filtered (IsRunnable layout) _ before all,
      ))

  -- one that goes on from its run's point, in a step of a run as it was before the event
  resumed_runnable : (after : TablesModel) (job from number : ℕ) (row next : RunRow) (owned : OwnedStep) (again : Option RunningStep) (points : List PointView) (before now : List RunningStepView) → run_of old from ≡ Some row → step_of_run row number ≡ Some owned
      → run_of after job ≡ Some next → own_step next ≡ Some owned → next.job.root ≡ row.job.root → AreLaidOut layout after.sets → ((point : PointView) → find (is_point_of job) points ≡ Some point → IsResumed job row.job.root owned point again)
      → StepGoesBack (find (is_point_of job) points) job after before now → AllByRecursion (IsRunnable layout) before → AllByRecursion (IsRunnable layout) now
  resumed_runnable after job from number row next owned again points before now row_at was next_at found root stands has goes all =
      let others = all-filtered (IsRunnable layout) (λ (on : RunningStepView). not (on.run == job)) before all in
      again-cases after job next owned points before now next_at found goes
      (λ gone. subst (AllByRecursion (IsRunnable layout)) (sym gone) others)
      (λ point is new.
      let starts = subst (λ n. HasNew job n owned (resumed n owned point) after.sets before now) root new.starts in
      let all_there = subst (λ n. has_sets after.sets (names_of n owned) ≡ true) root new.has in
      let prepared = has point is in
      subst (AllByRecursion (IsRunnable layout)) (sym starts.first) (
        runnable-at layout old from number row owned starts.on after.sets rows row_at was stands
            (ap (λ (s : StepRun). s.files) starts.step) (subst AreCounted (prepared.2.step ∙ sym starts.step) prepared.2.counted) (λ name among. has-among after.sets (names_of row.job.root owned) name all_there among) starts.sets starts.code,
        others,
      ))

  again_runnable : (job initiator : ℕ) (code : Code) (deck : Option Job) (again : Option RunningStep) (points : List PointView) (before now : List RunningStepView) → follows layout old (Restarted job initiator code true) deck ≡ true
      → HasAgain (find (is_point_of job) points) old job again → GoesOn (Restarted job initiator code true) (after_event (Restarted job initiator code true) deck old) points before now → AllByRecursion (IsRunnable layout) before → AllByRecursion (IsRunnable layout) now
  again_runnable job initiator code deck again points before now follow has goes all =
      let after : TablesModel = after_event (Restarted job initiator code true) deck old in
      let back = is-back layout old job initiator code deck numbered placed follow in
      resumed_runnable after job job (step_in (place_of back.row)) back.row back.next back.owned again points before now back.row_at back.was back.next_at back.found (ap (λ (j : Effective). j.root) back.job_is)
      (laid-behind layout old laid (Restarted job initiator code true) deck follow)
      (λ point is. subst (λ (found : Option PointView). HasAgain found old job again) is has back.row back.owned back.row_at back.was) goes all

  -- one that goes on in the step of an earlier run
  taken_runnable : (job initiator before step : ℕ) (id : Name) (deck : Option Job) (taken : Option RunningStep) (points : List PointView) (running now : List RunningStepView) → follows layout old (Selected job initiator (suc before) step (Some id)) deck ≡ true
      → HasTaken (find (is_point_of job) points) old (suc before) step job taken → GoesOn (Selected job initiator (suc before) step (Some id)) (after_event (Selected job initiator (suc before) step (Some id)) deck old) points running now
      → AllByRecursion (IsRunnable layout) running → AllByRecursion (IsRunnable layout) now
  taken_runnable job initiator before step id deck taken points running now follow has goes all =
      let after : TablesModel = after_event (Selected job initiator (suc before) step (Some id)) deck old in
      let over = is-taken layout old job initiator before step id deck numbered follow in
      resumed_runnable after job (suc before) step over.row over.next over.owned taken points running now over.row_at over.was over.next_at over.found over.root (laid-behind layout old laid (Selected job initiator (suc before) step (Some id)) deck follow)
      (λ point is. subst (λ (found : Option PointView). HasTaken found old (suc before) step job taken) is has over.row over.owned over.row_at over.was) goes all

  -- the step that goes on is prepared by the tables behind the event too
  resumed_behind : (after : TablesModel) (job : ℕ) (was next : RunRow) (its : OwnedStep) (point : PointView) (again : Option RunningStep) → run_of after job ≡ Some next → own_step next ≡ Some its → next.job.root ≡ was.job.root
      → IsResumed job was.job.root its point again → (row : RunRow) (owned : OwnedStep) → run_of after job ≡ Some row → own_step row ≡ Some owned → IsResumed job row.job.root owned point again
  resumed_behind after job was next its point again next_at is root has row owned at found =
      let same_row : next ≡ row = some-one next row (run_of after job) next_at at in
      let same : its ≡ owned = same_Some _ _ (sym is ∙ ap own_step same_row ∙ found) in
      let same_root : was.job.root ≡ row.job.root = sym root ∙ ap (λ (r : RunRow). r.job.root) same_row in
      subst (λ n. IsResumed job n owned point again) same_root (subst (λ (o : OwnedStep). IsResumed job was.job.root o point again) same has)

  again_behind : (job initiator : ℕ) (code : Code) (deck : Option Job) (again : Option RunningStep) (point : Option PointView) → follows layout old (Restarted job initiator code true) deck ≡ true → HasAgain point old job again
      → HasAgain point (after_event (Restarted job initiator code true) deck old) job again
  again_behind job initiator code deck again None follow has = has
  again_behind job initiator code deck again (Some point) follow has = λ row owned at found.
      let after : TablesModel = after_event (Restarted job initiator code true) deck old in
      let back = is-back layout old job initiator code deck numbered placed follow in
      resumed_behind after job back.row back.next back.owned point again back.next_at back.found (ap (λ (j : Effective). j.root) back.job_is) (has back.row back.owned back.row_at back.was) row owned at found

  taken_behind : (job initiator before step : ℕ) (id : Name) (deck : Option Job) (taken : Option RunningStep) (point : Option PointView) → follows layout old (Selected job initiator (suc before) step (Some id)) deck ≡ true → HasTaken point old (suc before) step job taken
      → HasAgain point (after_event (Selected job initiator (suc before) step (Some id)) deck old) job taken
  taken_behind job initiator before step id deck taken None follow has = has
  taken_behind job initiator before step id deck taken (Some point) follow has = λ row owned at found.
      let after : TablesModel = after_event (Selected job initiator (suc before) step (Some id)) deck old in
      let over = is-taken layout old job initiator before step id deck numbered follow in
      resumed_behind after job over.row over.next over.owned point taken over.next_at over.found over.root (has over.row over.owned over.row_at over.was) row owned at found

  pub started-from : (event : Event) (deck : Option Job) (begun : Option RunningStep) (jobs : JobsView) → jobs.tables.desk ≡ old → follows layout old event deck ≡ true → HasStarted event jobs begun → IsStartedFrom event (after_event event deck old) jobs.points begun
  started-from (Selected job initiator (suc before) step (Some id)) deck begun jobs is follow has =
      taken_behind job initiator before step id deck begun (find (is_point_of job) jobs.points) follow (subst (λ t. HasTaken (find (is_point_of job) jobs.points) t (suc before) step job begun) is has.step)
  started-from (Restarted job initiator code true) deck begun jobs is follow has =
      again_behind job initiator code deck begun (find (is_point_of job) jobs.points) follow (subst (λ t. HasAgain (find (is_point_of job) jobs.points) t job begun) is has.step)
  started-from (Restarted job initiator code false) deck begun jobs is follow has = tt
  started-from _ deck begun jobs is follow has = tt

  runnable : (event : Event) (deck : Option Job) (begun : Option RunningStep) (jobs : JobsView) (before now : List RunningStepView) → jobs.tables.desk ≡ old → follows layout old event deck ≡ true → HasStarted event jobs begun
      → GoesOn event (after_event event deck old) jobs.points before now → AllByRecursion (IsRunnable layout) before → AllByRecursion (IsRunnable layout) now
  runnable (Selected job initiator (suc before) step (Some id)) deck begun jobs running now is follow has goes all =
      taken_runnable job initiator before step id deck begun jobs.points running now follow (subst (λ t. HasTaken (find (is_point_of job) jobs.points) t (suc before) step job begun) is has.step) goes all
  runnable (Started job step items) deck begun jobs before now is follow has goes all = started_runnable job step items deck begun jobs.points before now follow (subst (λ t. HasStep t job step begun) is has.step) goes all
  runnable (Checkpointed job id taken writes lengths place bytes) deck begun jobs before now is follow has goes all =
      entered-all layout job (check_name_in (after_event (Checkpointed job id taken writes lengths place bytes) deck old) job) (place + records_of bytes) before now goes all
  runnable (Cancelled job) deck begun jobs before now is follow has goes all = subst (AllByRecursion (IsRunnable layout)) (sym goes) (served-runnable layout job before all)
  runnable (StepEnded job step rc writes lengths) deck begun jobs before now is follow has goes all = subst (AllByRecursion (IsRunnable layout)) (sym goes) (all-filtered (IsRunnable layout) _ before all)
  runnable (Restarted job initiator code true) deck begun jobs before now is follow has goes all =
      again_runnable job initiator code deck begun jobs.points before now follow (subst (λ t. HasAgain (find (is_point_of job) jobs.points) t job begun) is has.step) goes all
  runnable (Restarted job initiator code false) deck begun jobs before now is follow has goes all = subst (AllByRecursion (IsRunnable layout)) (sym goes) (all-filtered (IsRunnable layout) _ before all)
  runnable (Held job code writes lengths) deck begun jobs before now is follow has goes all = subst (AllByRecursion (IsRunnable layout)) (sym goes) (all-filtered (IsRunnable layout) _ before all)
  runnable (Ended job ending) deck begun jobs before now is follow has goes all = subst (AllByRecursion (IsRunnable layout)) (sym goes) (all-filtered (IsRunnable layout) _ before all)
  runnable _ deck begun jobs before now is follow has goes all = subst (AllByRecursion (IsRunnable layout)) (sym goes) all

-- ---- all of the jobs

-- what holds of the jobs holds behind an event that follows
pub jobs-behind : (layout : Layout) (old new : JobsView) (event : Event) (deck : Option Job) (begun : Option RunningStep) → AreNumbered 1 old.tables.desk.runs → IsAnyAccepted event deck → follows layout old.tables.desk event deck ≡ true
    → HasStarted event old begun → new.tables.desk ≡ after_event event deck old.tables.desk → GoesOn event new.tables.desk old.points old.running new.running → AreJobs layout old → AreJobs layout new
jobs-behind layout old new event deck begun numbered is follow has tables goes are = record {
  laid = subst (λ (t : TablesModel). AreLaidOut layout t.sets) (sym tables) (laid-behind layout old.tables.desk are.laid event deck follow);
  rows = subst (λ (t : TablesModel). AllByRecursion IsAcceptedRow t.runs) (sym tables) (accepted-behind layout old.tables.desk event deck numbered is follow are.rows);
  placed = subst (λ (t : TablesModel). AllByRecursion IsPlacedRow t.runs) (sym tables) (placed-behind layout old.tables.desk event deck is follow are.placed);
  running =
      runnable layout old.tables.desk numbered are.rows are.laid are.placed event deck begun old old.running new.running refl follow has
      (subst (λ (t : TablesModel). GoesOn event t old.points old.running new.running) tables goes) are.running;
}

-- the step that goes on from its run's point is prepared by the tables behind the event
pub started-behind : (layout : Layout) (seen : JobsView) (event : Event) (deck : Option Job) (begun : Option RunningStep) (after : TablesModel) → AreNumbered 1 seen.tables.desk.runs → AreJobs layout seen → follows layout seen.tables.desk event deck ≡ true
    → HasStarted event seen begun → after ≡ after_event event deck seen.tables.desk → IsStartedFrom event after seen.points begun
started-behind layout seen event deck begun after numbered are follow has is =
    subst (λ (t : TablesModel). IsStartedFrom event t seen.points begun) (sym is)
    (started-from layout seen.tables.desk numbered are.rows are.laid are.placed event deck begun seen refl follow has)

-- the step that is prepared may start, by the tables behind the event
pub may-run : (layout : Layout) (seen : JobsView) (event : Event) (deck : Option Job) (begun : Option RunningStep) (after : TablesModel) → AreNumbered 1 seen.tables.desk.runs → length seen.tables.desk.runs ≤ 9999999 → AreJobs layout seen → follows layout seen.tables.desk event deck ≡ true → HasStarted event seen begun → after ≡ after_event event deck seen.tables.desk → MayRun event after begun seen.running_room
may-run layout seen event deck begun after numbered few are follow has is =
    subst (λ (t : TablesModel). MayRun event t begun seen.running_room) (sym is)
    (may layout seen.tables.desk numbered are.rows are.laid are.placed event deck begun seen refl follow few has)
