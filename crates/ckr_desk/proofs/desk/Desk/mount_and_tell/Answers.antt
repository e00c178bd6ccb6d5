use Rattle.std.proofs.Common.{◌≡◌, ◌∙◌, [], List, Some, Ok, ap, refl, sym, subst}
use Rattle.ckr_console.specs.Answering.{restart_answer}
use Rattle.ckr_desk_store.specs.State.{StoreView}
use Rattle.ckr_desk_turn.specs.Mounts.{volumes_of, wanting}
use Rattle.ckr_points.specs.Rows.{TablesModel}
use Rattle.ckr_queue.specs.Mounts.{MountTable, held_at, units_with, with_held}
use Rattle.ckr_queue.specs.Units.{are_mounted}
use Rattle.ckr_volumes.specs.declared.layout.Layout.{Layout}
use Rattle.ckr_desk.proofs.Attendances.{asked-at, asked-planned, attended-unprepared, unprepared, wants-so}
use Rattle.ckr_desk.proofs.AskedVolumes.{asked-alike, asked-may, asked-none, mount-done, mount-failed, mount-refused, run-wanted}
use Rattle.ckr_desk.proofs.Calls.Stops.{now-left, same-left}
use Rattle.ckr_desk_turn.proofs.MachineRooms.{MayCome, there-wanted}
use Rattle.ckr_desk.proofs.Turns.Mounts.{ends-unmounted}
use Rattle.ckr_desk.proofs.Turns.Preparation.{as-before, same-unchanged}
use Rattle.ckr_desk.proofs.Units.Preparation.{err-is}
use Rattle.ckr_desk.specs.Attendance.{HasAttended, IsToMount, untaken}
use Rattle.ckr_desk_turn.specs.MachineRoom.{FitsUnits, MachineRoomView, are_there}
use Rattle.ckr_desk.specs.Preparation.{HasMemoryFor}
use Rattle.ckr_desk.specs.Rewrite.{OpensSame}
use Rattle.ckr_desk.specs.State.{DeskView}
use Rattle.ckr_desk.specs.Units.{HasTurned}
use Rattle.ckr_desk.proofs.desk.Desk.mount_and_tell.Goals as goal

pub returns-in_err-prepared-clause-attended : goal.returns-in_err-prepared-clause-attended
returns-in_err-prepared-clause-attended g c turn its p at =
    let d = g.D.Disk in
    let now = c.args.self.now in
    let laws = g.met.D.Disk g.world.𝓛 g.world.𝓜 g.world.𝓡 ((λ s x. x), (λ x. x), (λ x. x), λ x. x) in
    let mid = c.memory_for.new.self in
    let e = c.memory_for.ensures in
    let is = as-before d.content d.may_leave now mid d.told (same-unchanged d.content d.may_leave now mid e.jobs e.store) in
    let sized = ap (λ (s : StoreView g.row.D.Denot). d.size s.disk) e.store in
    let since = same-left d.moment d.left_since now.store mid.store (λ image. OpensSame d.content d.size now image × d.may_leave now.store.disk image) e.store
    (now-left d.told d.content d.may_leave d.moment d.left_since d.size now c.requires.sound c.requires.is_open (laws.only_now now.store.disk)) in
    let roomed = e.machine_room in
    let tables = e.jobs.tables in
    let layouts = ap (λ (s : StoreView g.row.D.Denot). s.layout) e.store in
    let error = c.in_err-prepared.field-0.0 in
    let m = subst (λ i. IsToMount now.store.layout now.jobs now.machine_room i c.args.plan c.args.wanted.items) (sym its) c.requires.to_mount in
    subst (HasAttended d.told d.content d.may_leave d.moment d.left_since d.size turn now mid) (sym (err-is c.from_residual.result error c.from_residual.ensures.1))
    (attended-unprepared d.told d.content d.may_leave d.moment d.left_since d.size now mid is sized since roomed turn p.trusted error (unprepared now mid error c.in_err-prepared.ensures.cause) (wants-so d.told d.content d.may_leave now turn c.args.plan p c.requires.to_mount.step c.requires.to_mount.wanting_is m.none))

pub mount_all-requires-clause-there : goal.mount_all-requires-clause-there
mount_all-requires-clause-there g c κs within =
    let d = g.D.Disk in
    let now = c.args.self.now in
    let laws = g.met.D.Disk g.world.𝓛 g.world.𝓜 g.world.𝓡 ((λ s x. x), (λ x. x), (λ x. x), λ x. x) in
    let mid = c.memory_for.new.self in
    let e = c.memory_for.ensures in
    let is = as-before d.content d.may_leave now mid d.told (same-unchanged d.content d.may_leave now mid e.jobs e.store) in
    let sized = ap (λ (s : StoreView g.row.D.Denot). d.size s.disk) e.store in
    let since = same-left d.moment d.left_since now.store mid.store (λ image. OpensSame d.content d.size now image × d.may_leave now.store.disk image) e.store
    (now-left d.told d.content d.may_leave d.moment d.left_since d.size now c.requires.sound c.requires.is_open (laws.only_now now.store.disk)) in
    let roomed = e.machine_room in
    let tables = e.jobs.tables in
    let layouts = ap (λ (s : StoreView g.row.D.Denot). s.layout) e.store in
    let inside : DeskView g.row.D.Denot = record { store = c.self.inside.store; jobs = c.self.inside.jobs; machine_room = c.self.inside.machine_room } in
    let layout_is : c.layout.result.now ≡ now.store.layout = c.layout.ensures.layout ∙ ap (λ (s : DeskView g.row.D.Denot). s.store.layout) c.self.view_is ∙ layouts in
    let room_is : inside.machine_room ≡ now.machine_room = ap (λ (s : DeskView g.row.D.Denot). s.machine_room) c.self.view_is ∙ roomed in
    let items_are : c.deref.result.now ≡ c.args.wanted.items = c.deref.ensures.0 in
    ap (λ (v : List _). are_there c.layout.result.now v) items_are ∙ ap (λ (l : Layout). are_there l c.args.wanted.items) layout_is
    ∙ ap (are_there now.store.layout) c.requires.to_mount.volumes_are ∙ there-wanted now.store.layout c.requires.to_mount.step

pub mount_all-requires-clause-fit : goal.mount_all-requires-clause-fit
mount_all-requires-clause-fit g c κs within =
    let d = g.D.Disk in
    let now = c.args.self.now in
    let laws = g.met.D.Disk g.world.𝓛 g.world.𝓜 g.world.𝓡 ((λ s x. x), (λ x. x), (λ x. x), λ x. x) in
    let mid = c.memory_for.new.self in
    let e = c.memory_for.ensures in
    let is = as-before d.content d.may_leave now mid d.told (same-unchanged d.content d.may_leave now mid e.jobs e.store) in
    let sized = ap (λ (s : StoreView g.row.D.Denot). d.size s.disk) e.store in
    let since = same-left d.moment d.left_since now.store mid.store (λ image. OpensSame d.content d.size now image × d.may_leave now.store.disk image) e.store
    (now-left d.told d.content d.may_leave d.moment d.left_since d.size now c.requires.sound c.requires.is_open (laws.only_now now.store.disk)) in
    let roomed = e.machine_room in
    let tables = e.jobs.tables in
    let layouts = ap (λ (s : StoreView g.row.D.Denot). s.layout) e.store in
    let inside : DeskView g.row.D.Denot = record { store = c.self.inside.store; jobs = c.self.inside.jobs; machine_room = c.self.inside.machine_room } in
    let layout_is : c.layout.result.now ≡ now.store.layout = c.layout.ensures.layout ∙ ap (λ (s : DeskView g.row.D.Denot). s.store.layout) c.self.view_is ∙ layouts in
    let room_is : inside.machine_room ≡ now.machine_room = ap (λ (s : DeskView g.row.D.Denot). s.machine_room) c.self.view_is ∙ roomed in
    let items_are : c.deref.result.now ≡ c.args.wanted.items = c.deref.ensures.0 in
    subst (λ (r : MachineRoomView). FitsUnits c.layout.result.now c.deref.result.now r) (sym room_is)
    (subst (λ (v : List _). FitsUnits c.layout.result.now v now.machine_room) (sym items_are) (subst (λ (l : Layout). FitsUnits l c.args.wanted.items now.machine_room) (sym layout_is) c.requires.to_mount.fits))

pub returns-in_err-reply-in-Taken-clause-attended : goal.returns-in_err-reply-in-Taken-clause-attended
returns-in_err-reply-in-Taken-clause-attended g c turn its p at =
    let d = g.D.Disk in
    let now = c.args.self.now in
    let laws = g.met.D.Disk g.world.𝓛 g.world.𝓜 g.world.𝓡 ((λ s x. x), (λ x. x), (λ x. x), λ x. x) in
    let mid = c.memory_for.new.self in
    let e = c.memory_for.ensures in
    let is = as-before d.content d.may_leave now mid d.told (same-unchanged d.content d.may_leave now mid e.jobs e.store) in
    let sized = ap (λ (s : StoreView g.row.D.Denot). d.size s.disk) e.store in
    let since = same-left d.moment d.left_since now.store mid.store (λ image. OpensSame d.content d.size now image × d.may_leave now.store.disk image) e.store
    (now-left d.told d.content d.may_leave d.moment d.left_since d.size now c.requires.sound c.requires.is_open (laws.only_now now.store.disk)) in
    let roomed = e.machine_room in
    let tables = e.jobs.tables in
    let layouts = ap (λ (s : StoreView g.row.D.Denot). s.layout) e.store in
    let inside : DeskView g.row.D.Denot = record { store = c.self.inside.store; jobs = c.self.inside.jobs; machine_room = c.self.inside.machine_room } in
    let layout_is : c.layout.result.now ≡ now.store.layout = c.layout.ensures.layout ∙ ap (λ (s : DeskView g.row.D.Denot). s.store.layout) c.self.view_is ∙ layouts in
    let room_is : inside.machine_room ≡ now.machine_room = ap (λ (s : DeskView g.row.D.Denot). s.machine_room) c.self.view_is ∙ roomed in
    let items_are : c.deref.result.now ≡ c.args.wanted.items = c.deref.ensures.0 in
    let asked = asked-alike now.store.layout c.layout.result.now c.args.wanted.items c.deref.result.now now.machine_room inside.machine_room _ c.mount_all.new.self layout_is items_are room_is c.in-Taken.ensures.taking c.in-Taken.ensures.behind in
    let m = subst (λ i. IsToMount now.store.layout now.jobs now.machine_room i c.args.plan c.args.wanted.items) (sym its) c.requires.to_mount in
    let q = asked-planned d.told d.content d.may_leave d.moment d.left_since d.size now mid inside is sized since c.self.view_is c.mount_all.new.self (untaken turn) c.args.plan p in
    let there = asked-at d.told d.content d.may_leave d.moment d.left_since d.size now mid inside is sized since c.self.view_is c.mount_all.new.self (ap (λ (s : DeskView g.row.D.Denot). s.jobs.points) c.self.view_is ∙ e.jobs.points) c.args.plan at in
    let error = c.in_err-reply-in-Taken.field-0.0 in
    subst (HasAttended d.told d.content d.may_leave d.moment d.left_since d.size turn now c.carry_out_with.new.self) (sym (err-is c.from_residual-in_err-reply-in-Taken.result error c.from_residual-in_err-reply-in-Taken.ensures.1))
    (mount-failed d.told d.content d.may_leave d.moment d.left_since d.size now mid inside is sized since c.self.view_is turn c.args.plan c.args.wanted.items p m _ c.mount_all.new.self asked c.carry_out_with.new.self error c.in_err-reply-in-Taken.ensures.memory (c.in_err-reply-in-Taken.ensures.turned (untaken turn) q there) (c.in_err-reply-in-Taken.ensures.answered (untaken turn) q))

pub take-requires-clause-none : goal.take-requires-clause-none
take-requires-clause-none g c κs within =
    let d = g.D.Disk in
    let now = c.args.self.now in
    let laws = g.met.D.Disk g.world.𝓛 g.world.𝓜 g.world.𝓡 ((λ s x. x), (λ x. x), (λ x. x), λ x. x) in
    let mid = c.memory_for.new.self in
    let e = c.memory_for.ensures in
    let is = as-before d.content d.may_leave now mid d.told (same-unchanged d.content d.may_leave now mid e.jobs e.store) in
    let sized = ap (λ (s : StoreView g.row.D.Denot). d.size s.disk) e.store in
    let since = same-left d.moment d.left_since now.store mid.store (λ image. OpensSame d.content d.size now image × d.may_leave now.store.disk image) e.store
    (now-left d.told d.content d.may_leave d.moment d.left_since d.size now c.requires.sound c.requires.is_open (laws.only_now now.store.disk)) in
    let roomed = e.machine_room in
    let tables = e.jobs.tables in
    let layouts = ap (λ (s : StoreView g.row.D.Denot). s.layout) e.store in
    let inside : DeskView g.row.D.Denot = record { store = c.self.inside.store; jobs = c.self.inside.jobs; machine_room = c.self.inside.machine_room } in
    let layout_is : c.layout.result.now ≡ now.store.layout = c.layout.ensures.layout ∙ ap (λ (s : DeskView g.row.D.Denot). s.store.layout) c.self.view_is ∙ layouts in
    let room_is : inside.machine_room ≡ now.machine_room = ap (λ (s : DeskView g.row.D.Denot). s.machine_room) c.self.view_is ∙ roomed in
    let items_are : c.deref.result.now ≡ c.args.wanted.items = c.deref.ensures.0 in
    let asked = asked-alike now.store.layout c.layout.result.now c.args.wanted.items c.deref.result.now now.machine_room inside.machine_room _ c.mount_all.new.self layout_is items_are room_is c.in-Taken.ensures.taking c.in-Taken.ensures.behind in
    ap (λ (t : MountTable). held_at t c.args.initiator) (ap (λ (s : DeskView g.row.D.Denot). s.machine_room.mounts) c.self-in-Taken.view_is ∙ c.carry_out_with.ensures.mounts)
    ∙ asked-none now.store.layout c.args.wanted.items now.machine_room _ c.mount_all.new.self asked c.requires.to_mount.fits c.args.initiator c.requires.to_mount.none

pub take-requires-clause-mounted : goal.take-requires-clause-mounted
take-requires-clause-mounted g c κs within =
    ap (λ (t : MountTable). are_mounted (units_with [] t) c.args.wanted.items) (ap (λ (s : DeskView g.row.D.Denot). s.machine_room.mounts) c.self-in-Taken.view_is ∙ c.carry_out_with.ensures.mounts)
    ∙ ap (λ (v : List _). are_mounted (units_with [] c.mount_all.new.self.mounts) v) (sym c.deref.ensures.0) ∙ c.in-Taken.ensures.mounted refl

pub unmounted-requires-clause-ends : goal.unmounted-requires-clause-ends
unmounted-requires-clause-ends g c κs within =
    let d = g.D.Disk in
    let now = c.args.self.now in
    let laws = g.met.D.Disk g.world.𝓛 g.world.𝓜 g.world.𝓡 ((λ s x. x), (λ x. x), (λ x. x), λ x. x) in
    let mid = c.memory_for.new.self in
    let e = c.memory_for.ensures in
    let is = as-before d.content d.may_leave now mid d.told (same-unchanged d.content d.may_leave now mid e.jobs e.store) in
    let sized = ap (λ (s : StoreView g.row.D.Denot). d.size s.disk) e.store in
    let since = same-left d.moment d.left_since now.store mid.store (λ image. OpensSame d.content d.size now image × d.may_leave now.store.disk image) e.store
    (now-left d.told d.content d.may_leave d.moment d.left_since d.size now c.requires.sound c.requires.is_open (laws.only_now now.store.disk)) in
    let roomed = e.machine_room in
    let tables = e.jobs.tables in
    let layouts = ap (λ (s : StoreView g.row.D.Denot). s.layout) e.store in
    let inside : DeskView g.row.D.Denot = record { store = c.self.inside.store; jobs = c.self.inside.jobs; machine_room = c.self.inside.machine_room } in
    let layout_is : c.layout.result.now ≡ now.store.layout = c.layout.ensures.layout ∙ ap (λ (s : DeskView g.row.D.Denot). s.store.layout) c.self.view_is ∙ layouts in
    let room_is : inside.machine_room ≡ now.machine_room = ap (λ (s : DeskView g.row.D.Denot). s.machine_room) c.self.view_is ∙ roomed in
    let items_are : c.deref.result.now ≡ c.args.wanted.items = c.deref.ensures.0 in
    let asked = asked-alike now.store.layout c.layout.result.now c.args.wanted.items c.deref.result.now now.machine_room inside.machine_room _ c.mount_all.new.self layout_is items_are room_is c.mount_all.ensures.taking c.mount_all.ensures.behind in
    let m = c.requires.to_mount in
    let wants : wanting inside.jobs.tables.desk c.args.plan ≡ Some m.step = ap (λ (s : DeskView g.row.D.Denot). wanting s.jobs.tables.desk c.args.plan) c.self.view_is ∙ ap (λ (t : TablesModel). wanting t c.args.plan) tables ∙ m.wanting_is in
    let memory = subst (λ (s : DeskView g.row.D.Denot). HasMemoryFor c.in-Some.run' c.args.plan s c.in_ok-prepared.prepared) (sym c.self.view_is) c.in_ok-prepared.ensures.memory in
    let row_at = run-wanted inside.jobs.tables.desk c.args.plan m.step c.in-Some.run' wants (sym c.in-Some.is ∙ c.run_wanting.ensures) in
    let layout_then : inside.store.layout ≡ now.store.layout = ap (λ (s : DeskView g.row.D.Denot). s.store.layout) c.self.view_is ∙ layouts in
    let may = asked-may now.store.layout c.args.wanted.items now.machine_room _ c.mount_all.new.self asked m.fits in
    ends-unmounted inside.store.layout inside.jobs c.args.plan m.step wants (memory.ends m.step.row row_at) c.mount_all.result
    (subst (λ (v : List _). MayCome v c.mount_all.result) (m.volumes_are ∙ ap (λ (l : Layout). volumes_of l m.step) (sym layout_then)) may) c.in_default-mount_all.not-Taken

pub returns-in_ok-reply-in-Taken-clause-attended : goal.returns-in_ok-reply-in-Taken-clause-attended
returns-in_ok-reply-in-Taken-clause-attended g c turn its p at =
    let d = g.D.Disk in
    let now = c.args.self.now in
    let laws = g.met.D.Disk g.world.𝓛 g.world.𝓜 g.world.𝓡 ((λ s x. x), (λ x. x), (λ x. x), λ x. x) in
    let mid = c.memory_for.new.self in
    let e = c.memory_for.ensures in
    let is = as-before d.content d.may_leave now mid d.told (same-unchanged d.content d.may_leave now mid e.jobs e.store) in
    let sized = ap (λ (s : StoreView g.row.D.Denot). d.size s.disk) e.store in
    let since = same-left d.moment d.left_since now.store mid.store (λ image. OpensSame d.content d.size now image × d.may_leave now.store.disk image) e.store
    (now-left d.told d.content d.may_leave d.moment d.left_since d.size now c.requires.sound c.requires.is_open (laws.only_now now.store.disk)) in
    let roomed = e.machine_room in
    let tables = e.jobs.tables in
    let layouts = ap (λ (s : StoreView g.row.D.Denot). s.layout) e.store in
    let inside : DeskView g.row.D.Denot = record { store = c.self.inside.store; jobs = c.self.inside.jobs; machine_room = c.self.inside.machine_room } in
    let layout_is : c.layout.result.now ≡ now.store.layout = c.layout.ensures.layout ∙ ap (λ (s : DeskView g.row.D.Denot). s.store.layout) c.self.view_is ∙ layouts in
    let room_is : inside.machine_room ≡ now.machine_room = ap (λ (s : DeskView g.row.D.Denot). s.machine_room) c.self.view_is ∙ roomed in
    let items_are : c.deref.result.now ≡ c.args.wanted.items = c.deref.ensures.0 in
    let asked = asked-alike now.store.layout c.layout.result.now c.args.wanted.items c.deref.result.now now.machine_room inside.machine_room _ c.mount_all.new.self layout_is items_are room_is c.in-Taken.ensures.taking c.in-Taken.ensures.behind in
    let m = subst (λ i. IsToMount now.store.layout now.jobs now.machine_room i c.args.plan c.args.wanted.items) (sym its) c.requires.to_mount in
    let q = asked-planned d.told d.content d.may_leave d.moment d.left_since d.size now mid inside is sized since c.self.view_is c.mount_all.new.self (untaken turn) c.args.plan p in
    let there = asked-at d.told d.content d.may_leave d.moment d.left_since d.size now mid inside is sized since c.self.view_is c.mount_all.new.self (ap (λ (s : DeskView g.row.D.Denot). s.jobs.points) c.self.view_is ∙ e.jobs.points) c.args.plan at in
    let then : DeskView g.row.D.Denot = record { store = c.self-in-Taken.inside.store; jobs = c.self-in-Taken.inside.jobs; machine_room = c.self-in-Taken.inside.machine_room } in
    let reply = c.in_ok-reply-in-Taken.reply in
    mount-done d.told d.content d.may_leave d.moment d.left_since d.size now mid inside is sized since c.self.view_is turn c.args.plan c.args.wanted.items p m _ c.mount_all.new.self asked refl then c.take.new.self
    (c.take.ensures ∙ ap (λ i. record then.machine_room { mounts = with_held i c.args.wanted.items then.machine_room.mounts }) (sym its)) reply
    (subst (λ (s : DeskView g.row.D.Denot). HasTurned d.told d.content d.may_leave d.moment d.left_since d.size (untaken turn) (restart_answer c.mount_all.new.self.operator) (record inside { machine_room = c.mount_all.new.self }) s (Ok reply)) (sym c.self-in-Taken.view_is) (c.in_ok-reply-in-Taken.ensures.turned (untaken turn) q there))
    (ap (λ (s : DeskView g.row.D.Denot). s.machine_room) c.self-in-Taken.view_is ∙ c.in_ok-reply-in-Taken.ensures.answered (untaken turn) q)

pub returns-in_default-mount_all-clause-attended : goal.returns-in_default-mount_all-clause-attended
returns-in_default-mount_all-clause-attended g c turn its p at =
    let d = g.D.Disk in
    let now = c.args.self.now in
    let laws = g.met.D.Disk g.world.𝓛 g.world.𝓜 g.world.𝓡 ((λ s x. x), (λ x. x), (λ x. x), λ x. x) in
    let mid = c.memory_for.new.self in
    let e = c.memory_for.ensures in
    let is = as-before d.content d.may_leave now mid d.told (same-unchanged d.content d.may_leave now mid e.jobs e.store) in
    let sized = ap (λ (s : StoreView g.row.D.Denot). d.size s.disk) e.store in
    let since = same-left d.moment d.left_since now.store mid.store (λ image. OpensSame d.content d.size now image × d.may_leave now.store.disk image) e.store
    (now-left d.told d.content d.may_leave d.moment d.left_since d.size now c.requires.sound c.requires.is_open (laws.only_now now.store.disk)) in
    let roomed = e.machine_room in
    let tables = e.jobs.tables in
    let layouts = ap (λ (s : StoreView g.row.D.Denot). s.layout) e.store in
    let inside : DeskView g.row.D.Denot = record { store = c.self.inside.store; jobs = c.self.inside.jobs; machine_room = c.self.inside.machine_room } in
    let layout_is : c.layout.result.now ≡ now.store.layout = c.layout.ensures.layout ∙ ap (λ (s : DeskView g.row.D.Denot). s.store.layout) c.self.view_is ∙ layouts in
    let room_is : inside.machine_room ≡ now.machine_room = ap (λ (s : DeskView g.row.D.Denot). s.machine_room) c.self.view_is ∙ roomed in
    let items_are : c.deref.result.now ≡ c.args.wanted.items = c.deref.ensures.0 in
    let asked = asked-alike now.store.layout c.layout.result.now c.args.wanted.items c.deref.result.now now.machine_room inside.machine_room _ c.mount_all.new.self layout_is items_are room_is c.mount_all.ensures.taking c.mount_all.ensures.behind in
    let m = subst (λ i. IsToMount now.store.layout now.jobs now.machine_room i c.args.plan c.args.wanted.items) (sym its) c.requires.to_mount in
    let q = asked-planned d.told d.content d.may_leave d.moment d.left_since d.size now mid inside is sized since c.self.view_is c.mount_all.new.self (untaken turn) c.args.plan p in
    let u = c.unmounted.ensures in
    mount-refused d.told d.content d.may_leave d.moment d.left_since d.size now mid inside is sized since c.self.view_is turn c.args.plan c.args.wanted.items p m c.mount_all.result c.mount_all.new.self asked c.in_default-mount_all.not-Taken c.unmounted.new.self c.unmounted.result u.memory (u.turned turn q) (u.unasked turn q) u.machine_room
