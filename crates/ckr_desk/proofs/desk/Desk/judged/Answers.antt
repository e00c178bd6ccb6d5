use Rattle.std.proofs.Common.{◌≡◌, ◌≢◌, ◌∙◌, ℕ, Option, Some, find, true, ap, refl, subst, sym}
use Rattle.std.proofs.lemmas.Bool.{false≢true}
use Rattle.std.specs.Option.{option_map_or}
use Rattle.ckr_console.specs.declared.question.Answer.TheVariants.{Silent}
use Rattle.ckr_desk_refines.specs.Memory.EventChanges.{is_point_of}
use Rattle.ckr_desk_refines.specs.Memory.Invariant.{AreJobs}
use Rattle.ckr_desk_refines.specs.Memory.OwnSteps.{AreLeft, HoldTheirOwn, PlanFollows}
use Rattle.ckr_desk_refines.specs.Memory.View.{JobsView, PointView}
use Rattle.ckr_desk_store.specs.State.{StoreView}
use Rattle.ckr_desk_turn.specs.Queue.{AreNumbered}
use Rattle.ckr_desk_turn.specs.Turns.{MountedTurn}
use Rattle.ckr_library.specs.NameMaps.{EachEntry}
use Rattle.ckr_points.specs.Follows.{is_in_state, of_run}
use Rattle.ckr_points.specs.Rows.{TableSet}
use Rattle.ckr_points.specs.declared.run.RunState.TheVariants.{Queued}
use Rattle.ckr_desk_refines.specs.Tables.View.{RoomyTables}
use Rattle.ckr_volumes.specs.Layouts.{StandsIn}
use Rattle.ckr_volumes.specs.declared.layout.Layout.{Layout}
use Rattle.ckr_desk.proofs.Continuations.Entries.{point-counted}
use Rattle.ckr_desk.proofs.Continuations.Plans.{found-knows, judged-there, not-ok, ok-point, point-there, queued-so, stands-there}
use Rattle.ckr_desk.specs.Continuation.{GoesOnThere, IsEntryPoint, IsPointFound, PlanKnows, continuation_in, judged_point, plan_by, program_in}
use Rattle.ckr_desk.specs.NoChange.{HaveStayed, IsUnchanged}
use Rattle.ckr_desk.specs.Soundness.{state_of}
use Rattle.ckr_desk.specs.State.{AreKept, DeskView}
use Rattle.ckr_desk.specs.Units.{IsPlanned}
use Rattle.ckr_desk.specs.declared.continuation.Continuation.{Continuation}
use Rattle.ckr_desk.proofs.desk.Desk.judged.Goals as goal

-- the jobs with a point in memory of a run that waits in the queue
stayed-so : (old new : JobsView) (point : PointView) → new.tables ≡ old.tables → new.running ≡ old.running → new.failed ≡ old.failed → ((run : ℕ) → run ≢ point.run → find (is_point_of run) new.points ≡ find (is_point_of run) old.points)
    → of_run old.tables.desk point.run (is_in_state Queued) ≡ true → HaveStayed old new
stayed-so old new point tables running failed others queued = record {
  tables = ap (λ (t : RoomyTables). t.desk) tables;
  running = running;
  failed = failed;
  points = λ run off. others run (λ same. false≢true (sym off ∙ ap (λ (n : ℕ). of_run old.tables.desk n (is_in_state Queued)) same ∙ queued));
}

-- the invariant of the jobs with it
kept-so : (layout now : Layout) (old new : JobsView) (point : PointView) → now ≡ layout → new.tables ≡ old.tables → of_run old.tables.desk point.run (is_in_state Queued) ≡ true → AreKept layout old
    → ((layout : Layout) → AreJobs layout old → AreJobs layout new)
    → (of_run old.tables.desk point.run (is_in_state Queued) ≡ true → HoldTheirOwn old → HoldTheirOwn new)
    → (AreLeft old → AreLeft new) → AreKept now new
kept-so layout now old new point same tables queued kept jobs own left =
    subst (λ (l : Layout). AreKept l new) (sym same)
    (record {
      are = jobs layout kept.are;
      own = own queued kept.own;
      left = left kept.left;
      numbered = subst (λ (t : RoomyTables). AreNumbered 1 t.desk.runs) (sym tables) kept.numbered;
    })

-- the point of the run that goes on
point-of : (tables : RoomyTables) (now : RoomyTables) (at : Continuation) (point : PointView) → now ≡ tables → IsEntryPoint at.job (program_in now.desk at.earlier at.step) point → IsEntryPoint at.job (program_in tables.desk at.earlier at.step) point
point-of tables now at point same its = subst (λ (t : RoomyTables). IsEntryPoint at.job (program_in t.desk at.earlier at.step) point) same its

pub judged_point-requires-clause-stand : goal.judged_point-requires-clause-stand
judged_point-requires-clause-stand g c κs within =
    subst (λ (t : RoomyTables). EachEntry (λ (table : TableSet). StandsIn c.self.inside.store.layout table.set) t.desk.sets) (sym c.tables.ensures) c.self.invariant.jobs.are.laid.stand

pub put_point-requires : goal.put_point-requires
put_point-requires g c =
    let at = c.in-Some.at in
    let program = program_in c.tables.result.now.desk at.earlier at.step in
    point-counted at.job program c.in-Ok.point (subst (IsPointFound at.job program) c.in-Ok.is c.in_ok-point.ensures.its)

pub invariant_of-self-in-Ok : goal.invariant_of-self-in-Ok
invariant_of-self-in-Ok g c =
    let at = c.in-Some.at in
    let old : JobsView = c.self.inside.jobs in
    let program = program_in c.tables.result.now.desk at.earlier at.step in
    let its : IsEntryPoint at.job program c.in-Ok.point = subst (IsPointFound at.job program) c.in-Ok.is c.in_ok-point.ensures.its in
    let is : continuation_in c.args.plan ≡ Some at = sym c.continuation_in.ensures ∙ c.in-Some.is in
    let follow = subst (λ (s : DeskView g.row.D.Denot). PlanFollows s.store.layout s.jobs.tables.desk c.args.plan) (sym c.self.view_is) c.requires.follows in
    let queued = ap (λ (p : PointView). of_run old.tables.desk p.run (is_in_state Queued)) its.is ∙ queued-so c.self.inside.store.layout old.tables.desk c.args.plan at is follow in
    record {
      jobs =
          kept-so c.self.inside.store.layout c.judged_point.new.store.layout old c.put_point.new.self c.in-Ok.point (ap (λ (s : StoreView g.row.D.Denot). s.layout) c.in_ok-point.ensures.kept) c.put_point.ensures.tables queued
          c.self.invariant.jobs c.put_point.ensures.jobs c.put_point.ensures.own c.put_point.ensures.left;
      store = c.judged_point.ensures.sound;
    }

pub returns-in_ok-put_point-in-Ok-clause-judged : goal.returns-in_ok-put_point-in-Ok-clause-judged
returns-in_ok-put_point-in-Ok-clause-judged g c = λ told.
    let d = g.D.Disk in
    let now = c.args.self.now in
    let at = c.in-Some.at in
    let is : continuation_in c.args.plan ≡ Some at = sym c.continuation_in.ensures ∙ c.in-Some.is in
    let found = sym c.in-Ok.is ∙ c.in_ok-point.ensures.judged told ∙ ap (λ (t : RoomyTables). judged_point c.self.inside.store.layout t.desk (d.content c.self.inside.store.disk) at) c.tables.ensures
    ∙ ap (λ (s : DeskView g.row.D.Denot). judged_point s.store.layout s.jobs.tables.desk (d.content s.store.disk) at) c.self.view_is
    in
    ap (plan_by c.args.plan at.job) found
    ∙ sym (ap (λ (o : Option Continuation). option_map_or (λ (at : Continuation). plan_by c.args.plan at.job (judged_point now.store.layout now.jobs.tables.desk (d.content now.store.disk) at)) o c.args.plan) is)

pub returns-in_ok-put_point-in-Ok-clause-knows : goal.returns-in_ok-put_point-in-Ok-clause-knows
returns-in_ok-put_point-in-Ok-clause-knows g c =
    let at = c.in-Some.at in
    let old : JobsView = c.self.inside.jobs in
    let new : JobsView = c.put_point.new.self in
    let program = program_in c.tables.result.now.desk at.earlier at.step in
    let its : IsEntryPoint at.job program c.in-Ok.point = subst (IsPointFound at.job program) c.in-Ok.is c.in_ok-point.ensures.its in
    let is : continuation_in c.args.plan ≡ Some at = sym c.continuation_in.ensures ∙ c.in-Some.is in
    let follow = subst (λ (s : DeskView g.row.D.Denot). PlanFollows s.store.layout s.jobs.tables.desk c.args.plan) (sym c.self.view_is) c.requires.follows in
    subst (λ (t : RoomyTables). PlanKnows t.desk new.points c.args.plan) (sym c.put_point.ensures.tables)
    (found-knows c.self.inside.store.layout old.tables.desk c.args.plan at is follow c.in-Ok.point new.points (point-of old.tables c.tables.result.now at c.in-Ok.point c.tables.ensures its)
    (ap (λ (p : PointView). find (is_point_of p.run) new.points) (sym its.is) ∙ c.in_ok-put_point-in-Ok.ensures.found))

pub returns-in_ok-put_point-in-Ok-clause-trusted : goal.returns-in_ok-put_point-in-Ok-clause-trusted
returns-in_ok-put_point-in-Ok-clause-trusted g c =
    let d = g.D.Disk in
    let at = c.in-Some.at in
    let old : DeskView g.row.D.Denot = record { store = c.self.inside.store; jobs = c.self.inside.jobs; machine_room = c.self.inside.machine_room } in
    let new : JobsView = c.put_point.new.self in
    let program = program_in c.tables.result.now.desk at.earlier at.step in
    let its : IsEntryPoint at.job program c.in-Ok.point = subst (IsPointFound at.job program) c.in-Ok.is c.in_ok-point.ensures.its in
    let is : continuation_in c.args.plan ≡ Some at = sym c.continuation_in.ensures ∙ c.in-Some.is in
    let follow = subst (λ (s : DeskView g.row.D.Denot). PlanFollows s.store.layout s.jobs.tables.desk c.args.plan) (sym c.self.view_is) c.requires.follows in
    subst (λ (s : DeskView g.row.D.Denot). (turn : MountedTurn) → IsPlanned d.told d.content d.may_leave s turn c.args.plan → GoesOnThere (state_of d.content s).desk new.points c.args.plan c.args.plan) c.self.view_is
    (λ turn p. record {
      same = refl;
      point = stands-there d.told d.content d.may_leave d.size old p.trusted c.self.invariant.jobs.are.laid turn p.its Silent c.args.plan p.planned follow at is c.in-Ok.point new.points
          (ap (λ (p : PointView). find (is_point_of p.run) new.points) (sym its.is) ∙ c.in_ok-put_point-in-Ok.ensures.found)
          (ok-point c.in-Ok.point (point-there d.told d.content d.may_leave d.size old p.trusted c.self.invariant.jobs.are.laid turn p.its Silent c.args.plan p.planned follow at is).point
          (sym c.in-Ok.is ∙ c.in_ok-point.ensures.judged p.trusted.tells ∙ ap (λ (t : RoomyTables). judged_point old.store.layout t.desk (d.content old.store.disk) at) c.tables.ensures
          ∙ judged-there d.told d.content d.may_leave d.size old p.trusted c.self.invariant.jobs.are.laid turn p.its Silent c.args.plan p.planned follow at is));
    })

pub returns-in_ok-put_point-in-Ok-clause-jobs : goal.returns-in_ok-put_point-in-Ok-clause-jobs
returns-in_ok-put_point-in-Ok-clause-jobs g c =
    let at = c.in-Some.at in
    let old : JobsView = c.self.inside.jobs in
    let program = program_in c.tables.result.now.desk at.earlier at.step in
    let its : IsEntryPoint at.job program c.in-Ok.point = subst (IsPointFound at.job program) c.in-Ok.is c.in_ok-point.ensures.its in
    let is : continuation_in c.args.plan ≡ Some at = sym c.continuation_in.ensures ∙ c.in-Some.is in
    let follow = subst (λ (s : DeskView g.row.D.Denot). PlanFollows s.store.layout s.jobs.tables.desk c.args.plan) (sym c.self.view_is) c.requires.follows in
    let queued = ap (λ (p : PointView). of_run old.tables.desk p.run (is_in_state Queued)) its.is ∙ queued-so c.self.inside.store.layout old.tables.desk c.args.plan at is follow in
    subst (λ (s : DeskView g.row.D.Denot). HaveStayed s.jobs c.put_point.new.self) c.self.view_is
    (stayed-so old c.put_point.new.self c.in-Ok.point c.put_point.ensures.tables c.put_point.ensures.running c.put_point.ensures.failed c.put_point.ensures.others queued)

pub returns-in_ok-put_point-in-Ok-clause-unchanged : goal.returns-in_ok-put_point-in-Ok-clause-unchanged
returns-in_ok-put_point-in-Ok-clause-unchanged g c =
    let d = g.D.Disk in
    let at = c.in-Some.at in
    let old : JobsView = c.self.inside.jobs in
    let new : DeskView g.row.D.Denot = record { store = c.judged_point.new.store; jobs = c.put_point.new.self; machine_room = c.self.inside.machine_room } in
    let program = program_in c.tables.result.now.desk at.earlier at.step in
    let its : IsEntryPoint at.job program c.in-Ok.point = subst (IsPointFound at.job program) c.in-Ok.is c.in_ok-point.ensures.its in
    let is : continuation_in c.args.plan ≡ Some at = sym c.continuation_in.ensures ∙ c.in-Some.is in
    let follow = subst (λ (s : DeskView g.row.D.Denot). PlanFollows s.store.layout s.jobs.tables.desk c.args.plan) (sym c.self.view_is) c.requires.follows in
    let queued = ap (λ (p : PointView). of_run old.tables.desk p.run (is_in_state Queued)) its.is ∙ queued-so c.self.inside.store.layout old.tables.desk c.args.plan at is follow in
    subst (λ (s : DeskView g.row.D.Denot). IsUnchanged d.content d.may_leave s new) c.self.view_is
    (record {
      jobs = stayed-so old c.put_point.new.self c.in-Ok.point c.put_point.ensures.tables c.put_point.ensures.running c.put_point.ensures.failed c.put_point.ensures.others queued;
      store = c.in_ok-point.ensures.kept;
      reads = c.in_ok-point.ensures.only_reads.same;
      none_new = c.in_ok-point.ensures.only_reads.none_new;
    })

pub returns-in-Err-clause-trusted : goal.returns-in-Err-clause-trusted
returns-in-Err-clause-trusted g c =
    let d = g.D.Disk in
    let at = c.in-Some.at in
    let old : DeskView g.row.D.Denot = record { store = c.self.inside.store; jobs = c.self.inside.jobs; machine_room = c.self.inside.machine_room } in
    let is : continuation_in c.args.plan ≡ Some at = sym c.continuation_in.ensures ∙ c.in-Some.is in
    let follow = subst (λ (s : DeskView g.row.D.Denot). PlanFollows s.store.layout s.jobs.tables.desk c.args.plan) (sym c.self.view_is) c.requires.follows in
    subst (λ (s : DeskView g.row.D.Denot). (turn : MountedTurn) → IsPlanned d.told d.content d.may_leave s turn c.args.plan → GoesOnThere (state_of d.content s).desk c.match-plan-5.self.jobs.points c.args.plan c.denied.result) c.self.view_is
    (λ turn p.
    absurd (not-ok c.in-Err.rule (point-there d.told d.content d.may_leave d.size old p.trusted c.self.invariant.jobs.are.laid turn p.its Silent c.args.plan p.planned follow at is).point
    (sym c.in-Err.is ∙ c.in_ok-point.ensures.judged p.trusted.tells ∙ ap (λ (t : RoomyTables). judged_point old.store.layout t.desk (d.content old.store.disk) at) c.tables.ensures
    ∙ judged-there d.told d.content d.may_leave d.size old p.trusted c.self.invariant.jobs.are.laid turn p.its Silent c.args.plan p.planned follow at is)))
