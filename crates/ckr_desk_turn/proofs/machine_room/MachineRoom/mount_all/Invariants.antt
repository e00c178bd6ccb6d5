use Rattle.ckr_desk_turn.proofs.MachineRooms.{AreMountedSoFar}
use Rattle.ckr_desk_turn.proofs.machine_room.MachineRoom.mount_all.Given as goal

abbrev pub invariant-loop-volume : goal.invariant-loop-volume
invariant-loop-volume g l = AreMountedSoFar l.layout l.volumes l.fn.self l.self l.volume-index
