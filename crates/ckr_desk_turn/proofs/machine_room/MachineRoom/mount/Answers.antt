use Rattle.std.proofs.Common.{◌≡◌, ◌≤◌, ◌∷◌, ◌∙◌, [], ap, subst, sym}
use Rattle.ckr_desk_turn.specs.Mounts.{mounted_all, not_taken}
use Rattle.ckr_desk_turn.specs.declared.taking.Taking.TheVariants.{Awaited, Refused}
use Rattle.ckr_queue.specs.Mounts.{MountTable, units_with}
use Rattle.ckr_queue.specs.Units.{IsMountedBeside, need_of, unit_for_of}
use Rattle.ckr_desk_turn.specs.MachineRoom.{MachineRoomView}
use Rattle.ckr_desk_turn.proofs.MachineRooms.{asked-refused, asked-silent, asked-yes, beside-itself}
use Rattle.ckr_desk_turn.proofs.machine_room.MachineRoom.mount.Goals as goal

pub unit_for-requires-clause-fit : goal.unit_for-requires-clause-fit
unit_for-requires-clause-fit g c =
    let volumes = c.args.volumes.now in
    subst (λ (room : MachineRoomView). (need_of (units_with [] room.mounts) volumes).need ≤ (need_of (units_with [] room.mounts) volumes).free) (sym c.self.view_is) c.requires.fit

pub mount-requires-clause-fit : goal.mount-requires-clause-fit
mount-requires-clause-fit g c =
    let volumes = c.args.volumes.now in
    subst (λ (mounts : MountTable). (need_of (units_with [] mounts) volumes).need ≤ (need_of (units_with [] mounts) volumes).free) (sym c.unit_for.ensures.same)
    (subst (λ (room : MachineRoomView). (need_of (units_with [] room.mounts) volumes).need ≤ (need_of (units_with [] room.mounts) volumes).free) (sym c.self.view_is) c.requires.fit)

pub mount-requires-clause-unit : goal.mount-requires-clause-unit
mount-requires-clause-unit g c =
    ap (λ (mounts : MountTable). unit_for_of (units_with c.args.volumes.now mounts) c.args.volume) c.unit_for.ensures.same ∙ sym c.in-Some.ensures.unit

pub returns-in-Yes-clause-asked : goal.returns-in-Yes-clause-asked
returns-in-Yes-clause-asked g c rest =
    let layout = c.args.layout.now in
    let volumes = c.args.volumes.now in
    subst (λ (room : MachineRoomView). mounted_all layout volumes (c.args.volume ∷ rest) room.mounts room.operator ≡ mounted_all layout volumes rest c.mount.new.self c.ask.new.self) c.self.view_is
    (asked-yes layout volumes c.args.volume rest c.self.inside.mounts c.self.inside.console c.in-Some.unit c.mount_question.result c.ask.result c.in-Some.ensures.unit c.mount_question.ensures c.ask.ensures.answer
    c.unit_for.new.self c.ask.new.self c.unit_for.ensures.same c.ask.ensures.behind c.in-Yes.is c.mount.new.self c.mount.ensures.mounted)

pub returns-in-Yes-clause-mounted : goal.returns-in-Yes-clause-mounted
returns-in-Yes-clause-mounted g c taken =
    let volumes = c.args.volumes.now in
    subst (λ (room : MachineRoomView). IsMountedBeside volumes c.args.volume (units_with volumes room.mounts) (units_with volumes c.mount.new.self)) c.self.view_is
    (subst (λ (mounts : MountTable). IsMountedBeside volumes c.args.volume (units_with volumes mounts) (units_with volumes c.mount.new.self)) c.unit_for.ensures.same c.mount.ensures.beside)

pub returns-in-No-clause-asked : goal.returns-in-No-clause-asked
returns-in-No-clause-asked g c rest =
    let layout = c.args.layout.now in
    let volumes = c.args.volumes.now in
    subst (λ (room : MachineRoomView). mounted_all layout volumes (c.args.volume ∷ rest) room.mounts room.operator ≡ not_taken (Refused c.args.volume) c.unit_for.new.self c.ask.new.self) c.self.view_is
    (asked-refused layout volumes c.args.volume rest c.self.inside.mounts c.self.inside.console c.in-Some.unit c.mount_question.result c.ask.result c.in-Some.ensures.unit c.mount_question.ensures c.ask.ensures.answer
    c.unit_for.new.self c.ask.new.self c.unit_for.ensures.same c.ask.ensures.behind c.in-No.is)

pub returns-in-Silent-clause-asked : goal.returns-in-Silent-clause-asked
returns-in-Silent-clause-asked g c rest =
    let layout = c.args.layout.now in
    let volumes = c.args.volumes.now in
    subst (λ (room : MachineRoomView). mounted_all layout volumes (c.args.volume ∷ rest) room.mounts room.operator ≡ not_taken Awaited c.unit_for.new.self c.ask.new.self) c.self.view_is
    (asked-silent layout volumes c.args.volume rest c.self.inside.mounts c.self.inside.console c.in-Some.unit c.mount_question.result c.ask.result c.in-Some.ensures.unit c.mount_question.ensures c.ask.ensures.answer
    c.unit_for.new.self c.ask.new.self c.unit_for.ensures.same c.ask.ensures.behind c.in-Silent.is)

pub returns-in_default-clause-mounted : goal.returns-in_default-clause-mounted
returns-in_default-clause-mounted g c taken =
    let volumes = c.args.volumes.now in
    subst (λ (room : MachineRoomView). IsMountedBeside volumes c.args.volume (units_with volumes room.mounts) (units_with volumes c.unit_for.new.self)) c.self.view_is
    (beside-itself volumes c.args.volume c.self.inside.mounts c.unit_for.new.self c.unit_for.ensures.sound c.unit_for.ensures.same (c.unit_for.ensures.none.0 c.in_default.is))
