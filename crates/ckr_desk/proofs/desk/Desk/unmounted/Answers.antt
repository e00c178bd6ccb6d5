use Rattle.std.proofs.Common.{◌≡◌, ◌≤◌, ◌∙◌, length, ap, sym, subst}
use Rattle.ckr_console.specs.Answering.{restart_answer}
use Rattle.ckr_desk_refines.specs.Memory.MountMemory.{none_prepared}
use Rattle.ckr_desk_refines.specs.Memory.OwnSteps.{PlanCommits, PlanFollows}
use Rattle.ckr_desk_refines.specs.Memory.Plans.{HasDue}
use Rattle.ckr_desk_refines.specs.Memory.Prepared.{Prepared}
use Rattle.ckr_desk_store.specs.State.{IsSound}
use Rattle.ckr_desk_turn.specs.declared.plan.Plan.{Plan}
use Rattle.ckr_desk_turn.specs.Inquiries.{decide, is_ask}
use Rattle.ckr_desk_turn.specs.Mounts.{plan_by}
use Rattle.ckr_desk_turn.specs.Turns.{MountedTurn}
use Rattle.ckr_volumes.specs.declared.layout.Layout.{Layout}
use Rattle.ckr_desk.proofs.Attendances.{planned-by}
use Rattle.ckr_desk.proofs.Turns.Mounts.{mounted-knows, telling-rests, volumes-few}
use Rattle.ckr_desk.proofs.Turns.Plans.{go-asks, settled-so}
use Rattle.ckr_desk.specs.Continuation.{PlanKnows, PlanStandsAt}
use Rattle.ckr_desk.specs.Preparation.{IsPreparedToSettle, IsTellingPlan}
use Rattle.ckr_desk.specs.Soundness.{state_of}
use Rattle.ckr_desk.specs.State.{DeskView}
use Rattle.ckr_desk.specs.Turn.{room_behind_answer}
use Rattle.ckr_desk.specs.Units.{IsPlanned}
use Rattle.ckr_desk.proofs.desk.Desk.unmounted.Goals as goal

pub plan_by-plan-requires-clause-few : goal.plan_by-plan-requires-clause-few
plan_by-plan-requires-clause-few g c =
    let sound : IsSound g.D.Disk.content g.D.Disk.may_leave g.D.Disk.size c.self.inside.store = c.self.invariant.store in
    subst (λ (l : Layout). length l.volumes.items ≤ 32) (sym c.layout.ensures.layout) (volumes-few c.self.inside.store.layout (g.D.Disk.size c.self.inside.store.disk) sound.header)

-- ---- what it comes to may be told

pub carry_out_with-requires-clause-telling : goal.carry_out_with-requires-clause-telling
carry_out_with-requires-clause-telling g c κs within =
    let d = g.D.Disk in
    let now = c.args.self.now in
    let plan = c.args.plan in
    let taking = c.args.taking in
    let same : c.plan_by-plan.result ≡ plan_by now.store.layout now.jobs.tables.desk taking plan =
    c.plan_by-plan.ensures.plan
    ∙ ap (λ (l : Layout). plan_by l c.self.inside.jobs.tables.desk taking plan) c.layout.ensures.layout
    ∙ ap (λ (s : DeskView g.row.D.Denot). plan_by s.store.layout s.jobs.tables.desk taking plan) c.self.view_is
    in
    subst IsTellingPlan (sym same) c.requires.ends.telling

pub carry_out_with-requires-clause-prepared : goal.carry_out_with-requires-clause-prepared
carry_out_with-requires-clause-prepared g c κs within =
    let d = g.D.Disk in
    let now = c.args.self.now in
    let plan = c.args.plan in
    let taking = c.args.taking in
    let same : c.plan_by-plan.result ≡ plan_by now.store.layout now.jobs.tables.desk taking plan =
    c.plan_by-plan.ensures.plan
    ∙ ap (λ (l : Layout). plan_by l c.self.inside.jobs.tables.desk taking plan) c.layout.ensures.layout
    ∙ ap (λ (s : DeskView g.row.D.Denot). plan_by s.store.layout s.jobs.tables.desk taking plan) c.self.view_is
    in
    subst (λ (prepared : Prepared). IsPreparedToSettle now.jobs c.plan_by-plan.result prepared) (sym c.none.ensures)
    (subst (λ (its : Plan). IsPreparedToSettle now.jobs its none_prepared) (sym same) c.requires.ends.prepared)

pub carry_out_with-requires-clause-knows : goal.carry_out_with-requires-clause-knows
carry_out_with-requires-clause-knows g c κs within =
    let d = g.D.Disk in
    let now = c.args.self.now in
    let plan = c.args.plan in
    let taking = c.args.taking in
    let same : c.plan_by-plan.result ≡ plan_by now.store.layout now.jobs.tables.desk taking plan =
    c.plan_by-plan.ensures.plan
    ∙ ap (λ (l : Layout). plan_by l c.self.inside.jobs.tables.desk taking plan) c.layout.ensures.layout
    ∙ ap (λ (s : DeskView g.row.D.Denot). plan_by s.store.layout s.jobs.tables.desk taking plan) c.self.view_is
    in
    let knows = mounted-knows now.store.layout now.jobs.tables.desk now.jobs.points (state_of d.content now).desk taking plan c.requires.ends.step c.requires.ends.wanting_is in
    subst (PlanKnows now.jobs.tables.desk now.jobs.points) (sym same) knows.0

pub carry_out_with-requires-clause-follows : goal.carry_out_with-requires-clause-follows
carry_out_with-requires-clause-follows g c κs within =
    let d = g.D.Disk in
    let now = c.args.self.now in
    let plan = c.args.plan in
    let taking = c.args.taking in
    let its = c.plan_by-plan.result in
    let inside = c.self.inside in
    subst (λ (s : DeskView g.row.D.Denot). PlanFollows s.store.layout s.jobs.tables.desk its) c.self.view_is
    (subst (λ (l : Layout). PlanFollows l inside.jobs.tables.desk its) c.layout.ensures.layout
    (c.plan_by-plan.ensures.own
    (subst (λ (l : Layout). PlanFollows l inside.jobs.tables.desk plan) (sym c.layout.ensures.layout)
    (subst (λ (s : DeskView g.row.D.Denot). PlanFollows s.store.layout s.jobs.tables.desk plan) (sym c.self.view_is) c.requires.follows))
    (subst (λ (s : DeskView g.row.D.Denot). HasDue s.jobs plan) (sym c.self.view_is) c.requires.due) c.self.invariant.jobs.own))

pub carry_out_with-requires-clause-commits : goal.carry_out_with-requires-clause-commits
carry_out_with-requires-clause-commits g c κs within =
    let d = g.D.Disk in
    let now = c.args.self.now in
    let plan = c.args.plan in
    let taking = c.args.taking in
    subst (λ (s : DeskView g.row.D.Denot). PlanCommits s.jobs.tables.desk s.jobs.running c.plan_by-plan.result) c.self.view_is
    (c.plan_by-plan.ensures.commits c.self.inside.jobs.running
    (subst (λ (s : DeskView g.row.D.Denot). PlanCommits s.jobs.tables.desk s.jobs.running plan) (sym c.self.view_is) c.requires.commits))

pub carry_out_with-requires-clause-leaves : goal.carry_out_with-requires-clause-leaves
carry_out_with-requires-clause-leaves g c κs within = c.plan_by-plan.ensures.left c.args.self.now.jobs.failed c.requires.leaves

-- ---- what it comes to

pub returns-clause-turned : goal.returns-clause-turned
returns-clause-turned g c turn p =
    let d = g.D.Disk in
    let now = c.args.self.now in
    let plan = c.args.plan in
    let taking = c.args.taking in
    let same : c.plan_by-plan.result ≡ plan_by now.store.layout now.jobs.tables.desk taking plan =
    c.plan_by-plan.ensures.plan
    ∙ ap (λ (l : Layout). plan_by l c.self.inside.jobs.tables.desk taking plan) c.layout.ensures.layout
    ∙ ap (λ (s : DeskView g.row.D.Denot). plan_by s.store.layout s.jobs.tables.desk taking plan) c.self.view_is
    in
    let knows = mounted-knows now.store.layout now.jobs.tables.desk now.jobs.points (state_of d.content now).desk taking plan c.requires.ends.step c.requires.ends.wanting_is in
    let one : MountedTurn = record { turn = turn; taking = taking } in
    let q = planned-by d.told d.content d.may_leave now turn plan p taking in
    c.carry_out_with.ensures.turned one (subst (IsPlanned d.told d.content d.may_leave now one) (sym same) q)
    (subst (PlanStandsAt (state_of d.content now).desk now.jobs.points) (sym same) knows.1)

pub returns-clause-unasked : goal.returns-clause-unasked
returns-clause-unasked g c turn p =
    let d = g.D.Disk in
    let now = c.args.self.now in
    let plan = c.args.plan in
    let taking = c.args.taking in
    let one : MountedTurn = record { turn = turn; taking = taking } in
    let q = planned-by d.told d.content d.may_leave now turn plan p taking in
    let answer = restart_answer now.machine_room.operator in
    let its = plan_by now.store.layout now.jobs.tables.desk taking plan in
    go-asks d.told d.content d.may_leave d.moment d.left_since d.size d.faults now q.trusted one q.its answer (decide answer its)
    (ap (decide answer) q.planned, settled-so answer its (telling-rests its c.requires.ends.telling))
    ∙ ap is_ask q.planned
    ∙ c.requires.ends.unasked

pub returns-clause-machine_room : goal.returns-clause-machine_room
returns-clause-machine_room g c =
    let d = g.D.Disk in
    let now = c.args.self.now in
    let plan = c.args.plan in
    let taking = c.args.taking in
    let same : c.plan_by-plan.result ≡ plan_by now.store.layout now.jobs.tables.desk taking plan =
    c.plan_by-plan.ensures.plan
    ∙ ap (λ (l : Layout). plan_by l c.self.inside.jobs.tables.desk taking plan) c.layout.ensures.layout
    ∙ ap (λ (s : DeskView g.row.D.Denot). plan_by s.store.layout s.jobs.tables.desk taking plan) c.self.view_is
    in
    c.carry_out_with.ensures.asked ∙ ap (λ b. room_behind_answer b now.machine_room) (ap is_ask same ∙ c.requires.ends.unasked)
