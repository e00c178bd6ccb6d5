use Rattle.std.proofs.Common.{◌≡◌, ◌∙◌, [], List, Some, Ok, ap, refl, sym, subst}
use Rattle.ckr_console.specs.Answering.{restart_answer}
use Rattle.ckr_desk_store.specs.State.{StoreView}
use Rattle.ckr_desk_turn.specs.Mounts.{volumes_of, wanting}
use Rattle.ckr_desk_turn.specs.declared.plan.Plan.TheVariants.{Work}
use Rattle.ckr_points.specs.Rows.{TablesModel}
use Rattle.ckr_queue.specs.Mounts.{MountTable, held_at, units_with, with_held}
use Rattle.ckr_queue.specs.Units.{are_mounted}
use Rattle.ckr_volumes.specs.declared.layout.Layout.{Layout}
use Rattle.ckr_desk.proofs.Attendances.{asked-planned, attended-not, attended-unprepared, later-before, later-since, later-sized, unprepared, unworked-lacks, unworked-room, wants-so}
use Rattle.ckr_desk.proofs.AskedVolumes.{asked-alike, asked-may, asked-none, mount-done, mount-failed, mount-refused, run-wanted}
use Rattle.ckr_desk.proofs.Calls.Stops.{reads-left}
use Rattle.ckr_desk_turn.proofs.MachineRooms.{MayCome, there-wanted}
use Rattle.ckr_desk.proofs.Trust.Sameness.{IsAsBefore}
use Rattle.ckr_desk.proofs.Turns.Mounts.{ends-unmounted}
use Rattle.ckr_desk.proofs.Turns.Preparation.{seen-alike}
use Rattle.ckr_desk.proofs.Units.Failures.{unworked-cause}
use Rattle.ckr_desk.proofs.Units.Mounts.{told-later}
use Rattle.ckr_desk.proofs.Units.Preparation.{err-is}
use Rattle.ckr_desk.specs.Attendance.{HasAttended, IsToMount, untaken}
use Rattle.ckr_desk_turn.specs.MachineRoom.{FitsUnits, MachineRoomView, are_there}
use Rattle.ckr_desk.specs.Preparation.{HasMemoryFor, IsToldByUnit}
use Rattle.ckr_desk.specs.Rewrite.{OpensSame}
use Rattle.ckr_desk.specs.State.{DeskView}
use Rattle.ckr_desk.specs.Units.{HasTurned}
use Rattle.ckr_desk.proofs.desk.Desk.mount_and_work.Goals as goal

pub returns-in_err-unit-clause-attended : goal.returns-in_err-unit-clause-attended
returns-in_err-unit-clause-attended g c turn its p at =
    let d = g.D.Disk in
    let now = c.args.self.now in
    let laws = g.met.D.Disk g.world.𝓛 g.world.𝓜 g.world.𝓡 ((λ s x. x), (λ x. x), (λ x. x), λ x. x) in
    let out = c.work_out.new.self in
    let o = c.work_out.ensures in
    let read : IsAsBefore d.told d.content d.may_leave now out = record { jobs = seen-alike now out o.jobs; layout = o.layout; room = o.room; reads = o.only_reads.same; none_new = o.only_reads.none_new } in
    let read_since = reads-left d.told d.content d.may_leave d.moment d.left_since d.size now out.store.disk o.any_moment o.only_reads in
    let error = c.in_err-unit.field-0.0 in
    subst (HasAttended d.told d.content d.may_leave d.moment d.left_since d.size turn now out) (sym (err-is c.from_residual.result error c.from_residual.ensures.1))
    (attended-not d.told d.content d.may_leave d.moment d.left_since d.size now out read o.size read_since o.machine_room turn p.trusted error
    (unworked-cause d.faults now out _ _ error c.in_err-unit.ensures.cause)
    (unworked-lacks _ turn d.faults now out error c.in_err-unit.ensures.cause)
    (unworked-room _ turn d.faults now out out.machine_room error c.in_err-unit.ensures.cause))

pub returns-in_err-prepared-clause-attended : goal.returns-in_err-prepared-clause-attended
returns-in_err-prepared-clause-attended g c turn its p at =
    let d = g.D.Disk in
    let now = c.args.self.now in
    let laws = g.met.D.Disk g.world.𝓛 g.world.𝓜 g.world.𝓡 ((λ s x. x), (λ x. x), (λ x. x), λ x. x) in
    let out = c.work_out.new.self in
    let o = c.work_out.ensures in
    let read : IsAsBefore d.told d.content d.may_leave now out = record { jobs = seen-alike now out o.jobs; layout = o.layout; room = o.room; reads = o.only_reads.same; none_new = o.only_reads.none_new } in
    let read_since = reads-left d.told d.content d.may_leave d.moment d.left_since d.size now out.store.disk o.any_moment o.only_reads in
    let mid = c.memory_for.new.self in
    let e = c.memory_for.ensures in
    let is = later-before d.told d.content d.may_leave d.moment d.left_since d.size now out mid read e.jobs e.store in
    let sized = later-sized d.told d.content d.may_leave d.moment d.left_since d.size now out mid read e.jobs e.store o.size in
    let since = later-since d.told d.content d.may_leave d.moment d.left_since d.size now out mid read e.jobs e.store (λ image. OpensSame d.content d.size now image × d.may_leave now.store.disk image) read_since in
    let roomed = e.machine_room ∙ o.machine_room in
    let tables = e.jobs.tables ∙ o.jobs.tables in
    let layouts = ap (λ (s : StoreView g.row.D.Denot). s.layout) e.store ∙ o.layout in
    let error = c.in_err-prepared.field-0.0 in
    let m = subst (λ i. IsToMount now.store.layout now.jobs now.machine_room i (Work c.args.run) c.args.wanted.items) (sym its) c.requires.to_mount in
    subst (HasAttended d.told d.content d.may_leave d.moment d.left_since d.size turn now mid) (sym (err-is c.from_residual-in_err-prepared.result error c.from_residual-in_err-prepared.ensures.1))
    (attended-unprepared d.told d.content d.may_leave d.moment d.left_since d.size now mid is sized since roomed turn p.trusted error (unprepared out mid error c.in_err-prepared.ensures.cause) (wants-so d.told d.content d.may_leave now turn (Work c.args.run) p c.requires.to_mount.step c.requires.to_mount.wanting_is m.none))

pub mount_all-requires-clause-there : goal.mount_all-requires-clause-there
mount_all-requires-clause-there g c κs within =
    let d = g.D.Disk in
    let now = c.args.self.now in
    let laws = g.met.D.Disk g.world.𝓛 g.world.𝓜 g.world.𝓡 ((λ s x. x), (λ x. x), (λ x. x), λ x. x) in
    let out = c.work_out.new.self in
    let o = c.work_out.ensures in
    let read : IsAsBefore d.told d.content d.may_leave now out = record { jobs = seen-alike now out o.jobs; layout = o.layout; room = o.room; reads = o.only_reads.same; none_new = o.only_reads.none_new } in
    let read_since = reads-left d.told d.content d.may_leave d.moment d.left_since d.size now out.store.disk o.any_moment o.only_reads in
    let mid = c.memory_for.new.self in
    let e = c.memory_for.ensures in
    let is = later-before d.told d.content d.may_leave d.moment d.left_since d.size now out mid read e.jobs e.store in
    let sized = later-sized d.told d.content d.may_leave d.moment d.left_since d.size now out mid read e.jobs e.store o.size in
    let since = later-since d.told d.content d.may_leave d.moment d.left_since d.size now out mid read e.jobs e.store (λ image. OpensSame d.content d.size now image × d.may_leave now.store.disk image) read_since in
    let roomed = e.machine_room ∙ o.machine_room in
    let tables = e.jobs.tables ∙ o.jobs.tables in
    let layouts = ap (λ (s : StoreView g.row.D.Denot). s.layout) e.store ∙ o.layout in
    let inside : DeskView g.row.D.Denot = record { store = c.self.inside.store; jobs = c.self.inside.jobs; machine_room = c.self.inside.machine_room } in
    let layout_is : c.layout.result.now ≡ now.store.layout = c.layout.ensures.layout ∙ ap (λ (s : DeskView g.row.D.Denot). s.store.layout) c.self.view_is ∙ layouts in
    let room_is : inside.machine_room ≡ now.machine_room = ap (λ (s : DeskView g.row.D.Denot). s.machine_room) c.self.view_is ∙ roomed in
    let items_are : c.deref.result.now ≡ c.args.wanted.items = c.deref.ensures.0 in
    ap (λ (v : List _). are_there c.layout.result.now v) items_are ∙ ap (λ (l : Layout). are_there l c.args.wanted.items) layout_is
    ∙ ap (are_there now.store.layout) c.requires.to_mount.volumes_are ∙ there-wanted now.store.layout c.requires.to_mount.step

pub mount_all-requires-clause-fit : goal.mount_all-requires-clause-fit
mount_all-requires-clause-fit g c κs within =
    let d = g.D.Disk in
    let now = c.args.self.now in
    let laws = g.met.D.Disk g.world.𝓛 g.world.𝓜 g.world.𝓡 ((λ s x. x), (λ x. x), (λ x. x), λ x. x) in
    let out = c.work_out.new.self in
    let o = c.work_out.ensures in
    let read : IsAsBefore d.told d.content d.may_leave now out = record { jobs = seen-alike now out o.jobs; layout = o.layout; room = o.room; reads = o.only_reads.same; none_new = o.only_reads.none_new } in
    let read_since = reads-left d.told d.content d.may_leave d.moment d.left_since d.size now out.store.disk o.any_moment o.only_reads in
    let mid = c.memory_for.new.self in
    let e = c.memory_for.ensures in
    let is = later-before d.told d.content d.may_leave d.moment d.left_since d.size now out mid read e.jobs e.store in
    let sized = later-sized d.told d.content d.may_leave d.moment d.left_since d.size now out mid read e.jobs e.store o.size in
    let since = later-since d.told d.content d.may_leave d.moment d.left_since d.size now out mid read e.jobs e.store (λ image. OpensSame d.content d.size now image × d.may_leave now.store.disk image) read_since in
    let roomed = e.machine_room ∙ o.machine_room in
    let tables = e.jobs.tables ∙ o.jobs.tables in
    let layouts = ap (λ (s : StoreView g.row.D.Denot). s.layout) e.store ∙ o.layout in
    let inside : DeskView g.row.D.Denot = record { store = c.self.inside.store; jobs = c.self.inside.jobs; machine_room = c.self.inside.machine_room } in
    let layout_is : c.layout.result.now ≡ now.store.layout = c.layout.ensures.layout ∙ ap (λ (s : DeskView g.row.D.Denot). s.store.layout) c.self.view_is ∙ layouts in
    let room_is : inside.machine_room ≡ now.machine_room = ap (λ (s : DeskView g.row.D.Denot). s.machine_room) c.self.view_is ∙ roomed in
    let items_are : c.deref.result.now ≡ c.args.wanted.items = c.deref.ensures.0 in
    subst (λ (r : MachineRoomView). FitsUnits c.layout.result.now c.deref.result.now r) (sym room_is)
    (subst (λ (v : List _). FitsUnits c.layout.result.now v now.machine_room) (sym items_are) (subst (λ (l : Layout). FitsUnits l c.args.wanted.items now.machine_room) (sym layout_is) c.requires.to_mount.fits))

pub work_with-requires-clause-told : goal.work_with-requires-clause-told
work_with-requires-clause-told g c κs within =
    let d = g.D.Disk in
    let now = c.args.self.now in
    let laws = g.met.D.Disk g.world.𝓛 g.world.𝓜 g.world.𝓡 ((λ s x. x), (λ x. x), (λ x. x), λ x. x) in
    let out = c.work_out.new.self in
    let o = c.work_out.ensures in
    let read : IsAsBefore d.told d.content d.may_leave now out = record { jobs = seen-alike now out o.jobs; layout = o.layout; room = o.room; reads = o.only_reads.same; none_new = o.only_reads.none_new } in
    let read_since = reads-left d.told d.content d.may_leave d.moment d.left_since d.size now out.store.disk o.any_moment o.only_reads in
    let mid = c.memory_for.new.self in
    let e = c.memory_for.ensures in
    let is = later-before d.told d.content d.may_leave d.moment d.left_since d.size now out mid read e.jobs e.store in
    let sized = later-sized d.told d.content d.may_leave d.moment d.left_since d.size now out mid read e.jobs e.store o.size in
    let since = later-since d.told d.content d.may_leave d.moment d.left_since d.size now out mid read e.jobs e.store (λ image. OpensSame d.content d.size now image × d.may_leave now.store.disk image) read_since in
    let roomed = e.machine_room ∙ o.machine_room in
    let tables = e.jobs.tables ∙ o.jobs.tables in
    let layouts = ap (λ (s : StoreView g.row.D.Denot). s.layout) e.store ∙ o.layout in
    let inside : DeskView g.row.D.Denot = record { store = c.self.inside.store; jobs = c.self.inside.jobs; machine_room = c.self.inside.machine_room } in
    subst (λ (s : DeskView g.row.D.Denot). IsToldByUnit c.args.run (record s { machine_room = c.mount_all.new.self }) c.in_ok-unit.unit c.told_of-told.result) (sym c.self.view_is)
    (told-later c.args.run out mid c.mount_all.new.self c.in_ok-unit.unit c.told_of-told.result e.store e.jobs c.told_of-told.ensures.told)

pub returns-in_err-reply-in-Taken-clause-attended : goal.returns-in_err-reply-in-Taken-clause-attended
returns-in_err-reply-in-Taken-clause-attended g c turn its p at =
    let d = g.D.Disk in
    let now = c.args.self.now in
    let laws = g.met.D.Disk g.world.𝓛 g.world.𝓜 g.world.𝓡 ((λ s x. x), (λ x. x), (λ x. x), λ x. x) in
    let out = c.work_out.new.self in
    let o = c.work_out.ensures in
    let read : IsAsBefore d.told d.content d.may_leave now out = record { jobs = seen-alike now out o.jobs; layout = o.layout; room = o.room; reads = o.only_reads.same; none_new = o.only_reads.none_new } in
    let read_since = reads-left d.told d.content d.may_leave d.moment d.left_since d.size now out.store.disk o.any_moment o.only_reads in
    let mid = c.memory_for.new.self in
    let e = c.memory_for.ensures in
    let is = later-before d.told d.content d.may_leave d.moment d.left_since d.size now out mid read e.jobs e.store in
    let sized = later-sized d.told d.content d.may_leave d.moment d.left_since d.size now out mid read e.jobs e.store o.size in
    let since = later-since d.told d.content d.may_leave d.moment d.left_since d.size now out mid read e.jobs e.store (λ image. OpensSame d.content d.size now image × d.may_leave now.store.disk image) read_since in
    let roomed = e.machine_room ∙ o.machine_room in
    let tables = e.jobs.tables ∙ o.jobs.tables in
    let layouts = ap (λ (s : StoreView g.row.D.Denot). s.layout) e.store ∙ o.layout in
    let inside : DeskView g.row.D.Denot = record { store = c.self.inside.store; jobs = c.self.inside.jobs; machine_room = c.self.inside.machine_room } in
    let layout_is : c.layout.result.now ≡ now.store.layout = c.layout.ensures.layout ∙ ap (λ (s : DeskView g.row.D.Denot). s.store.layout) c.self.view_is ∙ layouts in
    let room_is : inside.machine_room ≡ now.machine_room = ap (λ (s : DeskView g.row.D.Denot). s.machine_room) c.self.view_is ∙ roomed in
    let items_are : c.deref.result.now ≡ c.args.wanted.items = c.deref.ensures.0 in
    let asked = asked-alike now.store.layout c.layout.result.now c.args.wanted.items c.deref.result.now now.machine_room inside.machine_room _ c.mount_all.new.self layout_is items_are room_is c.in-Taken.ensures.taking c.in-Taken.ensures.behind in
    let m = subst (λ i. IsToMount now.store.layout now.jobs now.machine_room i (Work c.args.run) c.args.wanted.items) (sym its) c.requires.to_mount in
    let q = asked-planned d.told d.content d.may_leave d.moment d.left_since d.size now mid inside is sized since c.self.view_is c.mount_all.new.self (untaken turn) (Work c.args.run) p in
    let error = c.in_err-reply-in-Taken.field-0.0 in
    subst (HasAttended d.told d.content d.may_leave d.moment d.left_since d.size turn now c.work_with.new.self) (sym (err-is c.from_residual-in_err-reply-in-Taken.result error c.from_residual-in_err-reply-in-Taken.ensures.1))
    (mount-failed d.told d.content d.may_leave d.moment d.left_since d.size now mid inside is sized since c.self.view_is turn (Work c.args.run) c.args.wanted.items p m _ c.mount_all.new.self asked c.work_with.new.self error c.in_err-reply-in-Taken.ensures.memory (c.in_err-reply-in-Taken.ensures.turned (untaken turn) q) (c.in_err-reply-in-Taken.ensures.answered (untaken turn) q))

pub take-requires-clause-none : goal.take-requires-clause-none
take-requires-clause-none g c κs within =
    let d = g.D.Disk in
    let now = c.args.self.now in
    let laws = g.met.D.Disk g.world.𝓛 g.world.𝓜 g.world.𝓡 ((λ s x. x), (λ x. x), (λ x. x), λ x. x) in
    let out = c.work_out.new.self in
    let o = c.work_out.ensures in
    let read : IsAsBefore d.told d.content d.may_leave now out = record { jobs = seen-alike now out o.jobs; layout = o.layout; room = o.room; reads = o.only_reads.same; none_new = o.only_reads.none_new } in
    let read_since = reads-left d.told d.content d.may_leave d.moment d.left_since d.size now out.store.disk o.any_moment o.only_reads in
    let mid = c.memory_for.new.self in
    let e = c.memory_for.ensures in
    let is = later-before d.told d.content d.may_leave d.moment d.left_since d.size now out mid read e.jobs e.store in
    let sized = later-sized d.told d.content d.may_leave d.moment d.left_since d.size now out mid read e.jobs e.store o.size in
    let since = later-since d.told d.content d.may_leave d.moment d.left_since d.size now out mid read e.jobs e.store (λ image. OpensSame d.content d.size now image × d.may_leave now.store.disk image) read_since in
    let roomed = e.machine_room ∙ o.machine_room in
    let tables = e.jobs.tables ∙ o.jobs.tables in
    let layouts = ap (λ (s : StoreView g.row.D.Denot). s.layout) e.store ∙ o.layout in
    let inside : DeskView g.row.D.Denot = record { store = c.self.inside.store; jobs = c.self.inside.jobs; machine_room = c.self.inside.machine_room } in
    let layout_is : c.layout.result.now ≡ now.store.layout = c.layout.ensures.layout ∙ ap (λ (s : DeskView g.row.D.Denot). s.store.layout) c.self.view_is ∙ layouts in
    let room_is : inside.machine_room ≡ now.machine_room = ap (λ (s : DeskView g.row.D.Denot). s.machine_room) c.self.view_is ∙ roomed in
    let items_are : c.deref.result.now ≡ c.args.wanted.items = c.deref.ensures.0 in
    let asked = asked-alike now.store.layout c.layout.result.now c.args.wanted.items c.deref.result.now now.machine_room inside.machine_room _ c.mount_all.new.self layout_is items_are room_is c.in-Taken.ensures.taking c.in-Taken.ensures.behind in
    ap (λ (t : MountTable). held_at t c.args.initiator) (ap (λ (s : DeskView g.row.D.Denot). s.machine_room.mounts) c.self-in-Taken.view_is ∙ c.work_with.ensures.mounts)
    ∙ asked-none now.store.layout c.args.wanted.items now.machine_room _ c.mount_all.new.self asked c.requires.to_mount.fits c.args.initiator c.requires.to_mount.none

pub take-requires-clause-mounted : goal.take-requires-clause-mounted
take-requires-clause-mounted g c κs within =
    ap (λ (t : MountTable). are_mounted (units_with [] t) c.args.wanted.items) (ap (λ (s : DeskView g.row.D.Denot). s.machine_room.mounts) c.self-in-Taken.view_is ∙ c.work_with.ensures.mounts)
    ∙ ap (λ (v : List _). are_mounted (units_with [] c.mount_all.new.self.mounts) v) (sym c.deref.ensures.0) ∙ c.in-Taken.ensures.mounted refl

pub unmounted-requires-clause-ends : goal.unmounted-requires-clause-ends
unmounted-requires-clause-ends g c κs within =
    let d = g.D.Disk in
    let now = c.args.self.now in
    let laws = g.met.D.Disk g.world.𝓛 g.world.𝓜 g.world.𝓡 ((λ s x. x), (λ x. x), (λ x. x), λ x. x) in
    let out = c.work_out.new.self in
    let o = c.work_out.ensures in
    let read : IsAsBefore d.told d.content d.may_leave now out = record { jobs = seen-alike now out o.jobs; layout = o.layout; room = o.room; reads = o.only_reads.same; none_new = o.only_reads.none_new } in
    let read_since = reads-left d.told d.content d.may_leave d.moment d.left_since d.size now out.store.disk o.any_moment o.only_reads in
    let mid = c.memory_for.new.self in
    let e = c.memory_for.ensures in
    let is = later-before d.told d.content d.may_leave d.moment d.left_since d.size now out mid read e.jobs e.store in
    let sized = later-sized d.told d.content d.may_leave d.moment d.left_since d.size now out mid read e.jobs e.store o.size in
    let since = later-since d.told d.content d.may_leave d.moment d.left_since d.size now out mid read e.jobs e.store (λ image. OpensSame d.content d.size now image × d.may_leave now.store.disk image) read_since in
    let roomed = e.machine_room ∙ o.machine_room in
    let tables = e.jobs.tables ∙ o.jobs.tables in
    let layouts = ap (λ (s : StoreView g.row.D.Denot). s.layout) e.store ∙ o.layout in
    let inside : DeskView g.row.D.Denot = record { store = c.self.inside.store; jobs = c.self.inside.jobs; machine_room = c.self.inside.machine_room } in
    let layout_is : c.layout.result.now ≡ now.store.layout = c.layout.ensures.layout ∙ ap (λ (s : DeskView g.row.D.Denot). s.store.layout) c.self.view_is ∙ layouts in
    let room_is : inside.machine_room ≡ now.machine_room = ap (λ (s : DeskView g.row.D.Denot). s.machine_room) c.self.view_is ∙ roomed in
    let items_are : c.deref.result.now ≡ c.args.wanted.items = c.deref.ensures.0 in
    let asked = asked-alike now.store.layout c.layout.result.now c.args.wanted.items c.deref.result.now now.machine_room inside.machine_room _ c.mount_all.new.self layout_is items_are room_is c.mount_all.ensures.taking c.mount_all.ensures.behind in
    let m = c.requires.to_mount in
    let wants : wanting inside.jobs.tables.desk (Work c.args.run) ≡ Some m.step = ap (λ (s : DeskView g.row.D.Denot). wanting s.jobs.tables.desk (Work c.args.run)) c.self.view_is ∙ ap (λ (t : TablesModel). wanting t (Work c.args.run)) tables ∙ m.wanting_is in
    let memory = subst (λ (s : DeskView g.row.D.Denot). HasMemoryFor c.args.run c.told_of-told.result s c.in_ok-prepared.prepared) (sym c.self.view_is) c.in_ok-prepared.ensures.memory in
    let row_at = run-wanted inside.jobs.tables.desk (Work c.args.run) m.step c.args.run wants refl in
    let layout_then : inside.store.layout ≡ now.store.layout = ap (λ (s : DeskView g.row.D.Denot). s.store.layout) c.self.view_is ∙ layouts in
    let may = asked-may now.store.layout c.args.wanted.items now.machine_room _ c.mount_all.new.self asked m.fits in
    ends-unmounted inside.store.layout inside.jobs (Work c.args.run) m.step wants (memory.ends m.step.row row_at) c.mount_all.result
    (subst (λ (v : List _). MayCome v c.mount_all.result) (m.volumes_are ∙ ap (λ (l : Layout). volumes_of l m.step) (sym layout_then)) may) c.in_default.not-Taken

pub returns-in_ok-reply-in-Taken-clause-attended : goal.returns-in_ok-reply-in-Taken-clause-attended
returns-in_ok-reply-in-Taken-clause-attended g c turn its p at =
    let d = g.D.Disk in
    let now = c.args.self.now in
    let laws = g.met.D.Disk g.world.𝓛 g.world.𝓜 g.world.𝓡 ((λ s x. x), (λ x. x), (λ x. x), λ x. x) in
    let out = c.work_out.new.self in
    let o = c.work_out.ensures in
    let read : IsAsBefore d.told d.content d.may_leave now out = record { jobs = seen-alike now out o.jobs; layout = o.layout; room = o.room; reads = o.only_reads.same; none_new = o.only_reads.none_new } in
    let read_since = reads-left d.told d.content d.may_leave d.moment d.left_since d.size now out.store.disk o.any_moment o.only_reads in
    let mid = c.memory_for.new.self in
    let e = c.memory_for.ensures in
    let is = later-before d.told d.content d.may_leave d.moment d.left_since d.size now out mid read e.jobs e.store in
    let sized = later-sized d.told d.content d.may_leave d.moment d.left_since d.size now out mid read e.jobs e.store o.size in
    let since = later-since d.told d.content d.may_leave d.moment d.left_since d.size now out mid read e.jobs e.store (λ image. OpensSame d.content d.size now image × d.may_leave now.store.disk image) read_since in
    let roomed = e.machine_room ∙ o.machine_room in
    let tables = e.jobs.tables ∙ o.jobs.tables in
    let layouts = ap (λ (s : StoreView g.row.D.Denot). s.layout) e.store ∙ o.layout in
    let inside : DeskView g.row.D.Denot = record { store = c.self.inside.store; jobs = c.self.inside.jobs; machine_room = c.self.inside.machine_room } in
    let layout_is : c.layout.result.now ≡ now.store.layout = c.layout.ensures.layout ∙ ap (λ (s : DeskView g.row.D.Denot). s.store.layout) c.self.view_is ∙ layouts in
    let room_is : inside.machine_room ≡ now.machine_room = ap (λ (s : DeskView g.row.D.Denot). s.machine_room) c.self.view_is ∙ roomed in
    let items_are : c.deref.result.now ≡ c.args.wanted.items = c.deref.ensures.0 in
    let asked = asked-alike now.store.layout c.layout.result.now c.args.wanted.items c.deref.result.now now.machine_room inside.machine_room _ c.mount_all.new.self layout_is items_are room_is c.in-Taken.ensures.taking c.in-Taken.ensures.behind in
    let m = subst (λ i. IsToMount now.store.layout now.jobs now.machine_room i (Work c.args.run) c.args.wanted.items) (sym its) c.requires.to_mount in
    let q = asked-planned d.told d.content d.may_leave d.moment d.left_since d.size now mid inside is sized since c.self.view_is c.mount_all.new.self (untaken turn) (Work c.args.run) p in
    let then : DeskView g.row.D.Denot = record { store = c.self-in-Taken.inside.store; jobs = c.self-in-Taken.inside.jobs; machine_room = c.self-in-Taken.inside.machine_room } in
    let reply = c.in_ok-reply-in-Taken.reply in
    mount-done d.told d.content d.may_leave d.moment d.left_since d.size now mid inside is sized since c.self.view_is turn (Work c.args.run) c.args.wanted.items p m _ c.mount_all.new.self asked refl then c.take.new.self
    (c.take.ensures ∙ ap (λ i. record then.machine_room { mounts = with_held i c.args.wanted.items then.machine_room.mounts }) (sym its)) reply
    (subst (λ (s : DeskView g.row.D.Denot). HasTurned d.told d.content d.may_leave d.moment d.left_since d.size (untaken turn) (restart_answer c.mount_all.new.self.operator) (record inside { machine_room = c.mount_all.new.self }) s (Ok reply)) (sym c.self-in-Taken.view_is) (c.in_ok-reply-in-Taken.ensures.turned (untaken turn) q))
    (ap (λ (s : DeskView g.row.D.Denot). s.machine_room) c.self-in-Taken.view_is ∙ c.in_ok-reply-in-Taken.ensures.answered (untaken turn) q)

pub returns-in_default-clause-attended : goal.returns-in_default-clause-attended
returns-in_default-clause-attended g c turn its p at =
    let d = g.D.Disk in
    let now = c.args.self.now in
    let laws = g.met.D.Disk g.world.𝓛 g.world.𝓜 g.world.𝓡 ((λ s x. x), (λ x. x), (λ x. x), λ x. x) in
    let out = c.work_out.new.self in
    let o = c.work_out.ensures in
    let read : IsAsBefore d.told d.content d.may_leave now out = record { jobs = seen-alike now out o.jobs; layout = o.layout; room = o.room; reads = o.only_reads.same; none_new = o.only_reads.none_new } in
    let read_since = reads-left d.told d.content d.may_leave d.moment d.left_since d.size now out.store.disk o.any_moment o.only_reads in
    let mid = c.memory_for.new.self in
    let e = c.memory_for.ensures in
    let is = later-before d.told d.content d.may_leave d.moment d.left_since d.size now out mid read e.jobs e.store in
    let sized = later-sized d.told d.content d.may_leave d.moment d.left_since d.size now out mid read e.jobs e.store o.size in
    let since = later-since d.told d.content d.may_leave d.moment d.left_since d.size now out mid read e.jobs e.store (λ image. OpensSame d.content d.size now image × d.may_leave now.store.disk image) read_since in
    let roomed = e.machine_room ∙ o.machine_room in
    let tables = e.jobs.tables ∙ o.jobs.tables in
    let layouts = ap (λ (s : StoreView g.row.D.Denot). s.layout) e.store ∙ o.layout in
    let inside : DeskView g.row.D.Denot = record { store = c.self.inside.store; jobs = c.self.inside.jobs; machine_room = c.self.inside.machine_room } in
    let layout_is : c.layout.result.now ≡ now.store.layout = c.layout.ensures.layout ∙ ap (λ (s : DeskView g.row.D.Denot). s.store.layout) c.self.view_is ∙ layouts in
    let room_is : inside.machine_room ≡ now.machine_room = ap (λ (s : DeskView g.row.D.Denot). s.machine_room) c.self.view_is ∙ roomed in
    let items_are : c.deref.result.now ≡ c.args.wanted.items = c.deref.ensures.0 in
    let asked = asked-alike now.store.layout c.layout.result.now c.args.wanted.items c.deref.result.now now.machine_room inside.machine_room _ c.mount_all.new.self layout_is items_are room_is c.mount_all.ensures.taking c.mount_all.ensures.behind in
    let m = subst (λ i. IsToMount now.store.layout now.jobs now.machine_room i (Work c.args.run) c.args.wanted.items) (sym its) c.requires.to_mount in
    let q = asked-planned d.told d.content d.may_leave d.moment d.left_since d.size now mid inside is sized since c.self.view_is c.mount_all.new.self (untaken turn) (Work c.args.run) p in
    let u = c.unmounted.ensures in
    mount-refused d.told d.content d.may_leave d.moment d.left_since d.size now mid inside is sized since c.self.view_is turn (Work c.args.run) c.args.wanted.items p m c.mount_all.result c.mount_all.new.self asked c.in_default.not-Taken c.unmounted.new.self c.unmounted.result u.memory (u.turned turn q) (u.unasked turn q) u.machine_room
