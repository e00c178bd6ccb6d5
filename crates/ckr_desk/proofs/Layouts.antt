-- The jobs stay such as the layout of the disk has them, also where the disk fails.
use Rattle.std.proofs.Common.{◌≡◌, ℕ, [], ap, subst, sym}
use Rattle.std.specs.List.{AllByRecursion}
use Rattle.ckr_base.proofs.Options.{some-not-none}
use Rattle.ckr_desk_refines.specs.Memory.Invariant.{AreJobs, IsAcceptedRow, IsPlacedRow, IsRunnable}
use Rattle.ckr_desk_refines.specs.Memory.Holders.{AreHolders}
use Rattle.ckr_desk_refines.specs.Memory.OwnSets.{IsRunningOf}
use Rattle.ckr_desk_refines.specs.Memory.OwnSteps.{AreLeft, AreSingle, HavePoints, HoldTheirOwn}
use Rattle.ckr_desk_refines.specs.Memory.View.{JobsView}
use Rattle.ckr_desk_refines.proofs.Memory.LeftRuns.{left-alike}
use Rattle.ckr_desk_turn.specs.Queue.{AreNumbered}
use Rattle.ckr_points.specs.Rows.{TablesModel, no_tables}
use Rattle.ckr_points.specs.Soundness.{AreLaidOut}
use Rattle.ckr_desk_refines.specs.Tables.View.{RoomyTables}
use Rattle.ckr_desk_store.specs.Answers.{AppendCause, DiskCause}
use Rattle.ckr_desk_store.specs.State.{StoreView}
use Rattle.ckr_desk_store.specs.declared.error.StoreError.{StoreError}
use Rattle.ckr_desk_store.specs.declared.error.StoreError.TheVariants.{DiskFault, BookFull, Stopped}
use Rattle.ckr_volumes.specs.declared.layout.Layout.{Layout}
use Rattle.ckr_desk.specs.State.{AreKept}

pub jobs-stay : (layout later : Layout) (one two : JobsView) → later ≡ layout → two.tables.desk ≡ one.tables.desk → two.running ≡ one.running → AreJobs layout one → AreJobs later two
jobs-stay layout later one two same desk running jobs =
    subst (λ (l : Layout). AreJobs l two) (sym same)
    (record {
      laid = subst (λ (tables : TablesModel). AreLaidOut layout tables.sets) (sym desk) jobs.laid;
      rows = subst (λ (tables : TablesModel). AllByRecursion IsAcceptedRow tables.runs) (sym desk) jobs.rows;
      placed = subst (λ (tables : TablesModel). AllByRecursion IsPlacedRow tables.runs) (sym desk) jobs.placed;
      running = subst (AllByRecursion (IsRunnable layout)) (sym running) jobs.running;
    })

-- so do those that hold their own, with what else holds of them on any disk
pub kept-stay : (layout later : Layout) (one two : JobsView) → later ≡ layout → two.tables.desk ≡ one.tables.desk → two.running ≡ one.running → two.failed ≡ one.failed → two.points ≡ one.points → AreKept layout one → AreKept later two
kept-stay layout later one two same desk running failed points kept = record {
  are = jobs-stay layout later one two same desk running kept.are;
  own = record {
    holders = subst AreHolders (sym desk) kept.own.holders;
    running = subst (λ (tables : TablesModel). AllByRecursion (IsRunningOf tables) two.running) (sym desk) (subst (AllByRecursion (IsRunningOf one.tables.desk)) (sym running) kept.own.running);
    single = subst AreSingle (sym running) kept.own.single;
    points = subst (HavePoints two.tables.desk) (sym points) (subst (λ (tables : TablesModel). HavePoints tables one.points) (sym desk) kept.own.points);
  };
  left = left-alike one two desk failed kept.left;
  numbered = subst (λ (tables : TablesModel). AreNumbered 1 tables.runs) (sym desk) kept.numbered;
}

-- with other running steps that hold their own
pub kept-moved : (layout : Layout) (one two : JobsView) → two.tables.desk ≡ one.tables.desk → two.failed ≡ one.failed → AreJobs layout two → HoldTheirOwn two → AreKept layout one → AreKept layout two
kept-moved layout one two desk failed are own kept = record {
  are = are;
  own = own;
  left = left-alike one two desk failed kept.left;
  numbered = subst (λ (tables : TablesModel). AreNumbered 1 tables.runs) (sym desk) kept.numbered;
}

-- where one of them waits with its code
pub kept-waiting : (layout : Layout) (one two : JobsView) → two.tables ≡ one.tables → AreJobs layout two → HoldTheirOwn two → AreLeft two → AreKept layout one → AreKept layout two
kept-waiting layout one two same are own left kept = record {
  are = are;
  own = own;
  left = left;
  numbered = subst (λ (tables : RoomyTables). AreNumbered 1 tables.desk.runs) (sym same) kept.numbered;
}

-- where no step is running, and the runs stay apart
pub kept-opened : (layout : Layout) (one two : JobsView) → two.tables.desk ≡ one.tables.desk → two.running ≡ [] → AreJobs layout two → AreLeft two → AreHolders one.tables.desk → HavePoints one.tables.desk two.points → AreNumbered 1 one.tables.desk.runs → AreKept layout two
kept-opened layout one two desk running are left holders points numbered = record {
  are = are;
  own = record {
    holders = subst AreHolders (sym desk) holders;
    running = subst (AllByRecursion (IsRunningOf two.tables.desk)) (sym running) tt;
    single = subst AreSingle (sym running) tt;
    points = subst (λ (tables : TablesModel). HavePoints tables two.points) (sym desk) points;
  };
  left = left;
  numbered = subst (λ (tables : TablesModel). AreNumbered 1 tables.runs) (sym desk) numbered;
}

-- where there are no jobs they are such as any layout has them
pub no-jobs : (layout : Layout) (jobs : JobsView) → jobs.tables.desk ≡ no_tables → jobs.running ≡ [] → AreJobs layout jobs
no-jobs layout jobs tables running = record {
  laid = subst (λ (t : TablesModel). AreLaidOut layout t.sets) (sym tables) (record { stand = tt; apart = λ name other one two differ first second. absurd (some-not-none one (sym first)) });
  rows = subst (λ (t : TablesModel). AllByRecursion IsAcceptedRow t.runs) (sym tables) tt;
  placed = subst (λ (t : TablesModel). AllByRecursion IsPlacedRow t.runs) (sym tables) tt;
  running = subst (AllByRecursion (IsRunnable layout)) (sym running) tt;
}

module _ {D : Type 0} (faults : D → ℕ) (old new : StoreView D) where
  pub failed-layout : (error : StoreError) → DiskCause faults old new error → new.layout ≡ old.layout
  failed-layout DiskFault cause = ap (λ (s : StoreView D). s.layout) cause.1
  failed-layout (BookFull need room) cause = absurd cause
  failed-layout (Stopped fault) cause = ap (λ (s : StoreView D). s.layout) cause.1

  pub append-layout : (need : ℕ) (error : StoreError) → AppendCause faults need old new error → new.layout ≡ old.layout
  append-layout need DiskFault cause = ap (λ (s : StoreView D). s.layout) cause.1
  append-layout need (BookFull its room) cause = ap (λ (s : StoreView D). s.layout) cause.3
  append-layout need (Stopped fault) cause = ap (λ (s : StoreView D). s.layout) cause.1
