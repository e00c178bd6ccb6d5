-- The point at which a queued run is to go on stands beside those that have to be known.
use Rattle.std.proofs.Common.{◌≡◌, true, List, ◌∷◌, ap, sym, ◌∙◌, subst}
use Rattle.std.specs.List.{AllByRecursion}
use Rattle.std.proofs.lemmas.Bool.{false≢true}
use Rattle.ckr_base.proofs.Numbers.{number-cases}
use Rattle.ckr_base.proofs.Options.{some-one}
use Rattle.ckr_points.specs.Follows.{is_in_state, of_run}
use Rattle.ckr_points.specs.Office.{is_holder}
use Rattle.ckr_points.specs.Rows.{TablesModel, run_of}
use Rattle.ckr_points.specs.declared.run.RunState.TheVariants.{Queued}
use Rattle.ckr_points_invariant.proofs.Holders.Rows.{queued-is}
use Rattle.ckr_points_invariant.proofs.WaitingRuns.{tested-run}
use Rattle.ckr_points_tables.specs.View.{RoomyTables}
use Rattle.ckr_desk_memory.proofs.Invariant.{in_step-holds}
use Rattle.ckr_desk_memory.proofs.Points.{other-put}
use Rattle.ckr_desk_memory.specs.EventChanges.{without_point}
use Rattle.ckr_desk_memory.specs.Holders.{AreHolders}
use Rattle.ckr_desk_memory.specs.OwnSets.{IsRunningOf}
use Rattle.ckr_desk_memory.specs.OwnSteps.{AreSingle, HavePoints, HoldTheirOwn}
use Rattle.ckr_desk_memory.specs.View.{JobsView, PointView}

-- those that have to be known are of runs within their steps
have-put : (tables : TablesModel) (points : List PointView) (point : PointView) → of_run tables point.run (is_in_state Queued) ≡ true → HavePoints tables points → HavePoints tables (point ∷ without_point point.run points)
have-put tables points point waits known number row owned at runs effect found =
    number-cases number point.run
    (λ here.
    tested-run tables point.run (is_in_state Queued) waits
    (λ other there queued.
    let same : other ≡ row = some-one other row (run_of tables point.run) there (ap (run_of tables) (sym here) ∙ at) in
    absurd (false≢true (ap is_holder (sym (queued-is row.state (ap (is_in_state Queued) (sym same) ∙ queued))) ∙ in_step-holds row runs))))
    (λ apart.
    let its = known number row owned at runs effect found in
    record { point = its.point; found = other-put point points number apart ∙ its.found; program = its.program })

-- jobs that hold their own do so where such a point is put
pub own-known : (old new : JobsView) (point : PointView) → new.tables ≡ old.tables → new.running ≡ old.running → new.points ≡ point ∷ without_point point.run old.points → of_run old.tables.desk point.run (is_in_state Queued) ≡ true
    → HoldTheirOwn old → HoldTheirOwn new
own-known old new point tables running points waits own = record {
  points = subst (λ (t : TablesModel). HavePoints t new.points) (sym desk) (subst (HavePoints old.tables.desk) (sym points) (have-put old.tables.desk old.points point waits own.points));
  holders = subst AreHolders (sym desk) own.holders;
  running = subst (λ (t : TablesModel). AllByRecursion (IsRunningOf t) new.running) (sym desk) (subst (AllByRecursion (IsRunningOf old.tables.desk)) (sym running) own.running);
  single = subst AreSingle (sym running) own.single;
}
  where
    desk : new.tables.desk ≡ old.tables.desk
    desk = ap (λ (t : RoomyTables). t.desk) tables
