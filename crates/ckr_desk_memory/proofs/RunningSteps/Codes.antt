-- The running steps where the run of one waits with a code.
use Rattle.std.proofs.Common.{◌≡◌, ◌==◌, ℕ, Bool, true, false, List, [], ◌∷◌, sym, subst, Some}
use Rattle.std.specs.Prelude.{if◌then◌else◌}
use Rattle.std.specs.List.{AllByRecursion}
use Rattle.ckr_base.specs.declared.code.Code.{Code}
use Rattle.ckr_points.specs.Rows.{TablesModel}
use Rattle.ckr_points.specs.Soundness.{AreLaidOut}
use Rattle.ckr_points_tables.specs.View.{RoomyTables}
use Rattle.ckr_volumes.specs.declared.layout.Layout.{Layout}
use Rattle.ckr_desk_turn.specs.declared.failed_run.FailedRun.{FailedRun}
use Rattle.ckr_desk_turn.specs.Desk.{with_asked}
use Rattle.ckr_desk_turn.specs.Spelling.{IsCode}
use Rattle.ckr_desk_memory.specs.EventChanges.{coded_on, is_of_run, with_code}
use Rattle.ckr_desk_memory.specs.Holders.{AreHolders}
use Rattle.ckr_desk_memory.specs.Invariant.{AreJobs, IsAcceptedRow, IsPlacedRow, IsRunnable}
use Rattle.ckr_desk_memory.specs.OwnSets.{IsRunningOf}
use Rattle.ckr_desk_memory.specs.OwnSteps.{AreLeft, AreSingle, HavePoints, HoldTheirOwn, IsLeft, IsOfOther}
use Rattle.ckr_desk_memory.specs.View.{JobsView, RunningStepView}

module _ (run : ℕ) (code : Code) where
  abbrev with_it : RunningStepView → RunningStepView
  with_it on = record on { code = Some code }

  one-coded : (P : RunningStepView → Type 0) (on : RunningStepView) → (P on → P (with_it on)) → P on → P (coded_on run code on)
  one-coded P on goes is = by (is_of_run run on)
    where
      by : (b : Bool) → P (if b then with_it on else on)
      by true = goes is
      by false = is

  each-coded : (P : RunningStepView → Type 0) (running : List RunningStepView) → ((on : RunningStepView) → P on → P (with_it on)) → AllByRecursion P running → AllByRecursion P (with_code run code running)
  each-coded P [] goes all = tt
  each-coded P (on ∷ rest) goes all = (one-coded P on (goes on) all.0, each-coded P rest goes all.1)

  single-coded : (running : List RunningStepView) → AreSingle running → AreSingle (with_code run code running)
  single-coded [] single = tt
  single-coded (on ∷ rest) single = (
    one-coded (λ (first : RunningStepView). AllByRecursion (IsOfOther first.run) (with_code run code rest)) on (λ all. all) (each-coded (IsOfOther on.run) rest (λ other apart. apart) single.0),
    single-coded rest single.1,
  )

  runnable-coded : (layout : Layout) (on : RunningStepView) → IsCode code → IsRunnable layout on → IsRunnable layout (with_it on)
  runnable-coded layout on spelled runs = record { stored = runs.stored; there = runs.there; counted = runs.counted; coded = spelled }

  running-coded : (tables : TablesModel) (on : RunningStepView) → IsRunningOf tables on → IsRunningOf tables (with_it on)
  running-coded tables on is = record {
    row = is.row;
    owned = is.owned;
    row_at = is.row_at;
    state = is.state;
    within = is.within;
    found = is.found;
    program = is.program;
    parm = is.parm;
    files = is.files;
    changed = is.changed;
    updated = is.updated;
  }

  -- what holds of the jobs holds so too
  pub jobs-coded : (layout : Layout) (old new : JobsView) → IsCode code → new.tables ≡ old.tables → new.running ≡ with_code run code old.running → AreJobs layout old → AreJobs layout new
  jobs-coded layout old new spelled tables running are = record {
    laid = subst (λ (t : RoomyTables). AreLaidOut layout t.desk.sets) (sym tables) are.laid;
    rows = subst (λ (t : RoomyTables). AllByRecursion IsAcceptedRow t.desk.runs) (sym tables) are.rows;
    placed = subst (λ (t : RoomyTables). AllByRecursion IsPlacedRow t.desk.runs) (sym tables) are.placed;
    running = subst (AllByRecursion (IsRunnable layout)) (sym running) (each-coded (IsRunnable layout) old.running (λ on. runnable-coded layout on spelled) are.running);
  }

  pub own-coded : (old new : JobsView) → new.tables ≡ old.tables → new.points ≡ old.points → new.running ≡ with_code run code old.running → HoldTheirOwn old → HoldTheirOwn new
  own-coded old new tables points running own = record {
    holders = subst (λ (t : RoomyTables). AreHolders t.desk) (sym tables) own.holders;
    running =
        subst (λ (t : RoomyTables). AllByRecursion (IsRunningOf t.desk) new.running) (sym tables)
        (subst (AllByRecursion (IsRunningOf old.tables.desk)) (sym running) (each-coded (IsRunningOf old.tables.desk) old.running (running-coded old.tables.desk) own.running));
    single = subst AreSingle (sym running) (single-coded old.running own.single);
    points = subst (λ (t : RoomyTables). HavePoints t.desk new.points) (sym tables) (subst (HavePoints old.tables.desk) (sym points) own.points);
  }

-- the runs that were running when the system failed stay where they are
left-asked : (tables : TablesModel) (run : ℕ) (failed : List FailedRun) → AllByRecursion (λ (one : FailedRun). IsLeft tables one.run) failed → AllByRecursion (λ (one : FailedRun). IsLeft tables one.run) (with_asked run failed)
left-asked tables run [] all = tt
left-asked tables run (one ∷ rest) all = (by (one.run == run), left-asked tables run rest all.1)
  where
    by : (b : Bool) → IsLeft tables (if b then record one { asked = true } else one).run
    by true = all.0
    by false = all.0

pub jobs-left : (run : ℕ) (old : JobsView) (tables : RoomyTables) (failed : List FailedRun) → tables ≡ old.tables → failed ≡ with_asked run old.failed → AreLeft old → AllByRecursion (λ (one : FailedRun). IsLeft tables.desk one.run) failed
jobs-left run old tables failed same asked left =
    subst (λ (t : RoomyTables). AllByRecursion (λ (one : FailedRun). IsLeft t.desk one.run) failed) (sym same)
    (subst (AllByRecursion (λ (one : FailedRun). IsLeft old.tables.desk one.run)) (sym asked) (left-asked old.tables.desk run old.failed left))
