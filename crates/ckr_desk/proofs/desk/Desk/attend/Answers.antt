use Rattle.std.proofs.Common.{◌≡◌, ◌∙◌, [], List, true, Ok, None, Some, ap, refl, subst, sym}
use Rattle.std.proofs.lemmas.Bool.{true≢false}
use Rattle.std.specs.Option.{is_some}
use Rattle.ckr_base.proofs.Options.{option-cases}
use Rattle.ckr_console.specs.Answering.{restart_answer}
use Rattle.ckr_desk_refines.specs.Memory.OwnSteps.{PlanCommits}
use Rattle.ckr_desk_turn.specs.Mounts.{plan_by, volumes_of, wanting}
use Rattle.ckr_desk_turn.specs.Turns.{MountedTurn}
use Rattle.ckr_desk_turn.specs.declared.taking.Taking.{Taking}
use Rattle.ckr_desk_turn.specs.declared.taking.Taking.TheVariants.{Taken}
use Rattle.ckr_queue.specs.Mounts.{MountTable, held_at, units_with, with_held}
use Rattle.ckr_queue.specs.Units.{are_mounted}
use Rattle.ckr_volumes.specs.declared.layout.Layout.{Layout}
use Rattle.ckr_desk.proofs.Attendances.{attempt-at, attended-failed, attended-plainly, attended-taking, attended-untaken, held-at-hand, planned-by, unspent-so, unwanted-at-hand}
use Rattle.ckr_desk.proofs.AskedVolumes.{HasAsked, attempt-by, unasked-alike, wanted-none, wanted-some}
use Rattle.ckr_desk_turn.proofs.MachineRooms.{takes-none, takes_by}
use Rattle.ckr_desk.proofs.Turns.Mounts.{mounted-knows}
use Rattle.ckr_desk.proofs.Units.Preparation.{err-is}
use Rattle.ckr_desk.specs.Attendance.{HasAttended, untaken}
use Rattle.ckr_desk.specs.Continuation.{PlanKnows, PlanStandsAt}
use Rattle.ckr_desk_turn.specs.MachineRoom.{FitsUnits, MachineRoomView}
use Rattle.ckr_desk.specs.Soundness.{state_of}
use Rattle.ckr_desk.specs.State.{DeskView}
use Rattle.ckr_desk.specs.Turn.{AnswerStandsBy, asks}
use Rattle.ckr_desk.specs.Units.{HasTurned, IsPlanned}
use Rattle.ckr_desk.proofs.desk.Desk.attend.Goals as goal

-- ---- nothing is to be taken

pub returns-then-holds-clause-attended : goal.returns-then-holds-clause-attended
returns-then-holds-clause-attended g c turn its p at =
    let d = g.D.Disk in
    let now = c.args.self.now in
    let held : is_some (held_at now.machine_room.mounts turn.initiator) ≡ true =
    ap (λ i. is_some (held_at now.machine_room.mounts i)) its
    ∙ ap (λ (s : DeskView g.row.D.Denot). is_some (held_at s.machine_room.mounts c.args.initiator)) (sym c.self.view_is)
    ∙ sym c.holds.ensures
    ∙ c.if-holds.true
    in
    attended-plainly d.told d.content d.may_leave d.moment d.left_since d.size now turn
    (attempt-at d.told d.content d.may_leave now turn c.args.plan p ∙ held-at-hand now.store.layout now.jobs.tables.desk turn.initiator c.args.plan now.machine_room.mounts now.machine_room.operator held)
    c.carry_out.new.self c.carry_out.result (c.carry_out.ensures.turned (untaken turn) p at) (c.carry_out.ensures.answered (untaken turn) p)

pub returns-in_default-clause-attended : goal.returns-in_default-clause-attended
returns-in_default-clause-attended g c turn its p at =
    let d = g.D.Disk in
    let now = c.args.self.now in
    let none : wanting now.jobs.tables.desk c.args.plan ≡ None =
    ap (λ (s : DeskView g.row.D.Denot). wanting s.jobs.tables.desk c.args.plan) (sym c.self.view_is) ∙ wanted-none c.layout.result.now (wanting c.self.inside.jobs.tables.desk c.args.plan) c.in_default.ensures.volumes
    in
    attended-plainly d.told d.content d.may_leave d.moment d.left_since d.size now turn
    (attempt-at d.told d.content d.may_leave now turn c.args.plan p ∙ unwanted-at-hand now.store.layout now.jobs.tables.desk turn.initiator c.args.plan now.machine_room.mounts now.machine_room.operator none)
    c.carry_out-in_default.new.self c.carry_out-in_default.result (c.carry_out-in_default.ensures.turned (untaken turn) p at) (c.carry_out-in_default.ensures.answered (untaken turn) p)

-- ---- the volumes are asked for

pub mount-requires-clause-to_mount : goal.mount-requires-clause-to_mount
mount-requires-clause-to_mount g c κs within =
    let d = g.D.Disk in
    let now = c.args.self.now in
    let wants : (step : _) × (wanting c.self.inside.jobs.tables.desk c.args.plan ≡ Some step) × (c.in-Some.wanted.items ≡ volumes_of c.layout.result.now step) =
    wanted-some c.layout.result.now (wanting c.self.inside.jobs.tables.desk c.args.plan) c.in-Some.wanted.items c.in-Some.ensures.volumes
    in
    let step = wants.0 in
    let is : wanting now.jobs.tables.desk c.args.plan ≡ Some step = ap (λ (s : DeskView g.row.D.Denot). wanting s.jobs.tables.desk c.args.plan) (sym c.self.view_is) ∙ wants.1 in
    let layout_is : c.layout.result.now ≡ now.store.layout = c.layout.ensures.layout ∙ ap (λ (s : DeskView g.row.D.Denot). s.store.layout) c.self.view_is in
    let volumes_are : c.in-Some.wanted.items ≡ volumes_of now.store.layout step = wants.2 ∙ ap (λ (l : Layout). volumes_of l step) layout_is in
    let layout_then : c.layout-2.result.now ≡ now.store.layout = c.layout-2.ensures.layout ∙ ap (λ (s : DeskView g.row.D.Denot). s.store.layout) c.self.view_is in
    let room_is : c.self.inside.machine_room ≡ now.machine_room = ap (λ (s : DeskView g.row.D.Denot). s.machine_room) c.self.view_is in
    let none : held_at now.machine_room.mounts c.args.initiator ≡ None =
    option-cases (held_at now.machine_room.mounts c.args.initiator) (λ none. none)
    (λ held some. absurd (true≢false (sym (ap is_some some)
    ∙ ap (λ (s : DeskView g.row.D.Denot). is_some (held_at s.machine_room.mounts c.args.initiator)) (sym c.self.view_is)
    ∙ sym c.holds.ensures
    ∙ c.if-holds.false)))
    in
    record {
      step = step;
      wanting_is = is;
      volumes_are = volumes_are;
      list = c.in-Some.ensures.list;
      none = none;
      fits =
          subst (λ (r : MachineRoomView). FitsUnits now.store.layout c.in-Some.wanted.items r) room_is
          (subst (λ (v : List _). FitsUnits now.store.layout v c.self.inside.machine_room) c.deref.ensures.0
          (subst (λ (l : Layout). FitsUnits l c.deref.result.now c.self.inside.machine_room) layout_then (c.unasked.ensures.none c.in_default-unasked.is)));
    }

-- ---- all of them are on units

pub returns-in_err-reply-in-Taken-clause-attended : goal.returns-in_err-reply-in-Taken-clause-attended
returns-in_err-reply-in-Taken-clause-attended g c turn its p at =
    let d = g.D.Disk in
    let now = c.args.self.now in
    let wants : (step : _) × (wanting c.self.inside.jobs.tables.desk c.args.plan ≡ Some step) × (c.in-Some.wanted.items ≡ volumes_of c.layout.result.now step) =
    wanted-some c.layout.result.now (wanting c.self.inside.jobs.tables.desk c.args.plan) c.in-Some.wanted.items c.in-Some.ensures.volumes
    in
    let step = wants.0 in
    let is : wanting now.jobs.tables.desk c.args.plan ≡ Some step = ap (λ (s : DeskView g.row.D.Denot). wanting s.jobs.tables.desk c.args.plan) (sym c.self.view_is) ∙ wants.1 in
    let layout_is : c.layout.result.now ≡ now.store.layout = c.layout.ensures.layout ∙ ap (λ (s : DeskView g.row.D.Denot). s.store.layout) c.self.view_is in
    let volumes_are : c.in-Some.wanted.items ≡ volumes_of now.store.layout step = wants.2 ∙ ap (λ (l : Layout). volumes_of l step) layout_is in
    let layout_then : c.layout-2.result.now ≡ now.store.layout = c.layout-2.ensures.layout ∙ ap (λ (s : DeskView g.row.D.Denot). s.store.layout) c.self.view_is in
    let room_is : c.self.inside.machine_room ≡ now.machine_room = ap (λ (s : DeskView g.row.D.Denot). s.machine_room) c.self.view_is in
    let none : held_at now.machine_room.mounts turn.initiator ≡ None =
    option-cases (held_at now.machine_room.mounts turn.initiator) (λ none. none)
    (λ held some. absurd (true≢false (sym (ap is_some some)
    ∙ ap (λ i. is_some (held_at now.machine_room.mounts i)) its ∙ ap (λ (s : DeskView g.row.D.Denot). is_some (held_at s.machine_room.mounts c.args.initiator)) (sym c.self.view_is)
    ∙ sym c.holds.ensures
    ∙ c.if-holds.false)))
    in
    let asked = unasked-alike now.store.layout c.layout-2.result.now c.in-Some.wanted.items c.deref.result.now now.machine_room c.self.inside.machine_room c.in-Some-unasked.taking layout_then c.deref.ensures.0 room_is c.in-Some-unasked.ensures.some in
    let taken = subst (λ (t : Taking). HasAsked now.store.layout c.in-Some.wanted.items now.machine_room t now.machine_room) c.in-Taken.is asked in
    let attempt = attempt-by d.told d.content d.may_leave now turn c.args.plan p step is none c.in-Some.wanted.items volumes_are Taken now.machine_room taken in
    let error = c.in_err-reply-in-Taken.field-0.0 in
    let new = c.carry_out-in-Taken.new.self in
    let stands = c.in_err-reply-in-Taken.ensures.answered (untaken turn) p in
    let asking = asks (state_of d.content now) (untaken turn) (restart_answer now.machine_room.operator) in
    subst (HasAttended d.told d.content d.may_leave d.moment d.left_since d.size turn now new) (sym (err-is c.from_residual.result error c.from_residual.ensures.1))
    (attended-failed d.told d.content d.may_leave d.moment d.left_since d.size now turn Taken (Some c.in-Some.wanted.items) now.machine_room attempt new error (λ none. subst (AnswerStandsBy asking now.machine_room new.machine_room) none stands)
    (c.in_err-reply-in-Taken.ensures.turned (untaken turn) p at) stands)

pub take-requires-clause-mounted : goal.take-requires-clause-mounted
take-requires-clause-mounted g c κs within =
    ap (λ (t : MountTable). are_mounted (units_with [] t) c.in-Some.wanted.items)
    (ap (λ (s : DeskView g.row.D.Denot). s.machine_room.mounts) c.self-in-Taken.view_is ∙ c.carry_out-in-Taken.ensures.mounts ∙ ap (λ (s : DeskView g.row.D.Denot). s.machine_room.mounts) (sym c.self.view_is))
    ∙ ap (are_mounted (units_with [] c.self.inside.machine_room.mounts)) (sym c.deref.ensures.0)
    ∙ c.in-Some-unasked.ensures.some.mounted c.in-Taken.is

pub returns-in_ok-reply-in-Taken-clause-attended : goal.returns-in_ok-reply-in-Taken-clause-attended
returns-in_ok-reply-in-Taken-clause-attended g c turn its p at =
    let d = g.D.Disk in
    let now = c.args.self.now in
    let wants : (step : _) × (wanting c.self.inside.jobs.tables.desk c.args.plan ≡ Some step) × (c.in-Some.wanted.items ≡ volumes_of c.layout.result.now step) =
    wanted-some c.layout.result.now (wanting c.self.inside.jobs.tables.desk c.args.plan) c.in-Some.wanted.items c.in-Some.ensures.volumes
    in
    let step = wants.0 in
    let is : wanting now.jobs.tables.desk c.args.plan ≡ Some step = ap (λ (s : DeskView g.row.D.Denot). wanting s.jobs.tables.desk c.args.plan) (sym c.self.view_is) ∙ wants.1 in
    let layout_is : c.layout.result.now ≡ now.store.layout = c.layout.ensures.layout ∙ ap (λ (s : DeskView g.row.D.Denot). s.store.layout) c.self.view_is in
    let volumes_are : c.in-Some.wanted.items ≡ volumes_of now.store.layout step = wants.2 ∙ ap (λ (l : Layout). volumes_of l step) layout_is in
    let layout_then : c.layout-2.result.now ≡ now.store.layout = c.layout-2.ensures.layout ∙ ap (λ (s : DeskView g.row.D.Denot). s.store.layout) c.self.view_is in
    let room_is : c.self.inside.machine_room ≡ now.machine_room = ap (λ (s : DeskView g.row.D.Denot). s.machine_room) c.self.view_is in
    let none : held_at now.machine_room.mounts turn.initiator ≡ None =
    option-cases (held_at now.machine_room.mounts turn.initiator) (λ none. none)
    (λ held some. absurd (true≢false (sym (ap is_some some)
    ∙ ap (λ i. is_some (held_at now.machine_room.mounts i)) its ∙ ap (λ (s : DeskView g.row.D.Denot). is_some (held_at s.machine_room.mounts c.args.initiator)) (sym c.self.view_is)
    ∙ sym c.holds.ensures
    ∙ c.if-holds.false)))
    in
    let asked = unasked-alike now.store.layout c.layout-2.result.now c.in-Some.wanted.items c.deref.result.now now.machine_room c.self.inside.machine_room c.in-Some-unasked.taking layout_then c.deref.ensures.0 room_is c.in-Some-unasked.ensures.some in
    let taken = subst (λ (t : Taking). HasAsked now.store.layout c.in-Some.wanted.items now.machine_room t now.machine_room) c.in-Taken.is asked in
    let attempt = attempt-by d.told d.content d.may_leave now turn c.args.plan p step is none c.in-Some.wanted.items volumes_are Taken now.machine_room taken in
    let then : DeskView g.row.D.Denot = record { store = c.self-in-Taken.inside.store; jobs = c.self-in-Taken.inside.jobs; machine_room = c.self-in-Taken.inside.machine_room } in
    let reply = c.in_ok-reply-in-Taken.reply in
    attended-taking d.told d.content d.may_leave d.moment d.left_since d.size now turn Taken (Some c.in-Some.wanted.items) now.machine_room attempt c.in-Some.wanted.items refl then c.take.new.self
    (c.take.ensures ∙ ap (λ i. record then.machine_room { mounts = with_held i c.in-Some.wanted.items then.machine_room.mounts }) (sym its)) reply
    (subst (λ (s : DeskView g.row.D.Denot). HasTurned d.told d.content d.may_leave d.moment d.left_since d.size (untaken turn) (restart_answer now.machine_room.operator) now s (Ok reply)) (sym c.self-in-Taken.view_is) (c.in_ok-reply-in-Taken.ensures.turned (untaken turn) p at))
    (ap (λ (s : DeskView g.row.D.Denot). s.machine_room) c.self-in-Taken.view_is ∙ c.in_ok-reply-in-Taken.ensures.answered (untaken turn) p)

-- ---- they need more units than there are, or than are free

pub carry_out-requires-in_default-taking-clause-knows : goal.carry_out-requires-in_default-taking-clause-knows
carry_out-requires-in_default-taking-clause-knows g c κs within =
    let d = g.D.Disk in
    let now = c.args.self.now in
    let wants : (step : _) × (wanting c.self.inside.jobs.tables.desk c.args.plan ≡ Some step) × (c.in-Some.wanted.items ≡ volumes_of c.layout.result.now step) =
    wanted-some c.layout.result.now (wanting c.self.inside.jobs.tables.desk c.args.plan) c.in-Some.wanted.items c.in-Some.ensures.volumes
    in
    let step = wants.0 in
    let is : wanting now.jobs.tables.desk c.args.plan ≡ Some step = ap (λ (s : DeskView g.row.D.Denot). wanting s.jobs.tables.desk c.args.plan) (sym c.self.view_is) ∙ wants.1 in
    let layout_is : c.layout.result.now ≡ now.store.layout = c.layout.ensures.layout ∙ ap (λ (s : DeskView g.row.D.Denot). s.store.layout) c.self.view_is in
    let volumes_are : c.in-Some.wanted.items ≡ volumes_of now.store.layout step = wants.2 ∙ ap (λ (l : Layout). volumes_of l step) layout_is in
    let taking = c.in-Some-unasked.taking in
    let same : c.plan_by-plan.result ≡ plan_by now.store.layout now.jobs.tables.desk taking c.args.plan =
    c.plan_by-plan.ensures.plan
    ∙ ap (λ (l : Layout). plan_by l c.self.inside.jobs.tables.desk taking c.args.plan) (c.layout-in_default-taking.ensures.layout)
    ∙ ap (λ (s : DeskView g.row.D.Denot). plan_by s.store.layout s.jobs.tables.desk taking c.args.plan) c.self.view_is
    in
    let knows = mounted-knows now.store.layout now.jobs.tables.desk now.jobs.points (state_of d.content now).desk taking c.args.plan step is in
    subst (PlanKnows now.jobs.tables.desk now.jobs.points) (sym same) knows.0

pub carry_out-requires-in_default-taking-clause-commits : goal.carry_out-requires-in_default-taking-clause-commits
carry_out-requires-in_default-taking-clause-commits g c κs within =
    subst (λ (s : DeskView g.row.D.Denot). PlanCommits s.jobs.tables.desk s.jobs.running c.plan_by-plan.result) c.self.view_is
    (c.plan_by-plan.ensures.commits c.self.inside.jobs.running
    (subst (λ (s : DeskView g.row.D.Denot). PlanCommits s.jobs.tables.desk s.jobs.running c.args.plan) (sym c.self.view_is) c.requires.commits))

pub carry_out-requires-in_default-taking-clause-leaves : goal.carry_out-requires-in_default-taking-clause-leaves
carry_out-requires-in_default-taking-clause-leaves g c κs within = c.plan_by-plan.ensures.left c.args.self.now.jobs.failed c.requires.leaves

pub returns-in_default-taking-clause-attended : goal.returns-in_default-taking-clause-attended
returns-in_default-taking-clause-attended g c turn its p at =
    let d = g.D.Disk in
    let now = c.args.self.now in
    let wants : (step : _) × (wanting c.self.inside.jobs.tables.desk c.args.plan ≡ Some step) × (c.in-Some.wanted.items ≡ volumes_of c.layout.result.now step) =
    wanted-some c.layout.result.now (wanting c.self.inside.jobs.tables.desk c.args.plan) c.in-Some.wanted.items c.in-Some.ensures.volumes
    in
    let step = wants.0 in
    let is : wanting now.jobs.tables.desk c.args.plan ≡ Some step = ap (λ (s : DeskView g.row.D.Denot). wanting s.jobs.tables.desk c.args.plan) (sym c.self.view_is) ∙ wants.1 in
    let layout_is : c.layout.result.now ≡ now.store.layout = c.layout.ensures.layout ∙ ap (λ (s : DeskView g.row.D.Denot). s.store.layout) c.self.view_is in
    let volumes_are : c.in-Some.wanted.items ≡ volumes_of now.store.layout step = wants.2 ∙ ap (λ (l : Layout). volumes_of l step) layout_is in
    let layout_then : c.layout-2.result.now ≡ now.store.layout = c.layout-2.ensures.layout ∙ ap (λ (s : DeskView g.row.D.Denot). s.store.layout) c.self.view_is in
    let room_is : c.self.inside.machine_room ≡ now.machine_room = ap (λ (s : DeskView g.row.D.Denot). s.machine_room) c.self.view_is in
    let none : held_at now.machine_room.mounts turn.initiator ≡ None =
    option-cases (held_at now.machine_room.mounts turn.initiator) (λ none. none)
    (λ held some. absurd (true≢false (sym (ap is_some some)
    ∙ ap (λ i. is_some (held_at now.machine_room.mounts i)) its ∙ ap (λ (s : DeskView g.row.D.Denot). is_some (held_at s.machine_room.mounts c.args.initiator)) (sym c.self.view_is)
    ∙ sym c.holds.ensures
    ∙ c.if-holds.false)))
    in
    let asked = unasked-alike now.store.layout c.layout-2.result.now c.in-Some.wanted.items c.deref.result.now now.machine_room c.self.inside.machine_room c.in-Some-unasked.taking layout_then c.deref.ensures.0 room_is c.in-Some-unasked.ensures.some in
    let taking = c.in-Some-unasked.taking in
    let same : c.plan_by-plan.result ≡ plan_by now.store.layout now.jobs.tables.desk taking c.args.plan =
    c.plan_by-plan.ensures.plan
    ∙ ap (λ (l : Layout). plan_by l c.self.inside.jobs.tables.desk taking c.args.plan) (c.layout-in_default-taking.ensures.layout)
    ∙ ap (λ (s : DeskView g.row.D.Denot). plan_by s.store.layout s.jobs.tables.desk taking c.args.plan) c.self.view_is
    in
    let attempt = attempt-by d.told d.content d.may_leave now turn c.args.plan p step is none c.in-Some.wanted.items volumes_are taking now.machine_room asked in
    let one : MountedTurn = record { turn = turn; taking = taking } in
    let q = subst (IsPlanned d.told d.content d.may_leave now one) (sym same) (planned-by d.told d.content d.may_leave now turn c.args.plan p taking) in
    let knows = mounted-knows now.store.layout now.jobs.tables.desk now.jobs.points (state_of d.content now).desk taking c.args.plan step is in
    let there = subst (PlanStandsAt (state_of d.content now).desk now.jobs.points) (sym same) knows.1 in
    let new = c.carry_out-in_default-taking.new.self in
    let result = c.carry_out-in_default-taking.result in
    let stands = c.carry_out-in_default-taking.ensures.answered one q in
    attended-untaken d.told d.content d.may_leave d.moment d.left_since d.size now turn taking (takes_by c.in-Some.wanted.items taking) now.machine_room attempt (takes-none c.in-Some.wanted.items taking c.in_default-taking.not-Taken) new result
    (unspent-so d.told d.content d.may_leave d.moment d.left_since d.size now turn (asks (state_of d.content now) one (restart_answer now.machine_room.operator)) new.machine_room result stands) (c.carry_out-in_default-taking.ensures.turned one q there) stands
