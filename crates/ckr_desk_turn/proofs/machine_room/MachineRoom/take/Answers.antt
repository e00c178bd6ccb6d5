use Rattle.std.proofs.Common.{IsTrue, [], subst, sym}
use Rattle.ckr_queue.specs.Mounts.{units_with}
use Rattle.ckr_queue.specs.Units.{are_mounted}
use Rattle.ckr_desk_turn.specs.MachineRoom.{MachineRoomView}
use Rattle.ckr_desk_turn.proofs.machine_room.MachineRoom.take.Goals as goal

pub take-requires-clause-mounted : goal.take-requires-clause-mounted
take-requires-clause-mounted g c =
    subst (λ (room : MachineRoomView). IsTrue (are_mounted (units_with [] room.mounts) c.args.volumes.items)) (sym c.self.view_is) c.requires.mounted
