use Rattle.std.proofs.Common.{◌≤◌, ◌∙◌, [], ap, arith, subst, sym}
use Rattle.ckr_queue.proofs.Lists.{short_list}
use Rattle.ckr_queue.specs.Mounts.{units_with}
use Rattle.ckr_queue.specs.Units.{are_mounted, need_of}
use Rattle.ckr_queue.specs.declared.units.Need.{Need}
use Rattle.ckr_desk_turn.specs.MachineRoom.{MachineRoomView}
use Rattle.ckr_desk_turn.proofs.MachineRooms.{unasked-lacks, unasked-taken}
use Rattle.ckr_desk_turn.proofs.machine_room.MachineRoom.unasked.Goals as goal

pub overflow_cast-volumes : goal.overflow_cast-volumes
overflow_cast-volumes g c = omega (arith, short_list c.args.volumes.now c.requires.list)

pub overflow_cast-result : goal.overflow_cast-result
overflow_cast-result g c = omega (arith, short_list c.args.volumes.now c.requires.list)

pub returns-then-free-need-clause-some : goal.returns-then-free-need-clause-some
returns-then-free-need-clause-some g c =
    let volumes = c.args.volumes.now in
    unasked-lacks c.args.layout.now volumes c.args.self.now c.need-need.result.need c.need-need.result.free c.if-layout-volumes.false
    (c.need-need.ensures.need ∙ ap (λ (room : MachineRoomView). need_of (units_with [] room.mounts) volumes) c.self.view_is) c.if-free-need.true

pub returns-then-are_mounted-clause-some : goal.returns-then-are_mounted-clause-some
returns-then-are_mounted-clause-some g c =
    let volumes = c.args.volumes.now in
    let need = c.need-need.ensures.need ∙ ap (λ (room : MachineRoomView). need_of (units_with [] room.mounts) volumes) c.self.view_is in
    unasked-taken c.args.layout.now volumes c.args.self.now (record { units = c.if-layout-volumes.false; free = subst (λ (one : Need). one.need ≤ one.free) need c.if-free-need.false })
    (ap (λ (room : MachineRoomView). are_mounted (units_with [] room.mounts) volumes) (sym c.self.view_is) ∙ sym c.are_mounted.ensures.mounted ∙ c.if-are_mounted.true)

pub returns-clause-none : goal.returns-clause-none
returns-clause-none g c none =
    let volumes = c.args.volumes.now in
    let need = c.need-need.ensures.need ∙ ap (λ (room : MachineRoomView). need_of (units_with [] room.mounts) volumes) c.self.view_is in
    record { units = c.if-layout-volumes.false; free = subst (λ (one : Need). one.need ≤ one.free) need c.if-free-need.false }

pub returns-clause-lacking : goal.returns-clause-lacking
returns-clause-lacking g c none =
    let volumes = c.args.volumes.now in
    ap (λ (room : MachineRoomView). are_mounted (units_with [] room.mounts) volumes) (sym c.self.view_is) ∙ sym c.are_mounted.ensures.mounted ∙ c.if-are_mounted.false
