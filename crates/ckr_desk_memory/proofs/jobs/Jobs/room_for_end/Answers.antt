use Rattle.std.proofs.Common.{subst, sym}
use Rattle.ckr_points.specs.Rows.{TablesModel}
use Rattle.ckr_desk_turn.specs.Queue.{AreNumbered}
use Rattle.ckr_desk_turn.proofs.Queue.Events.{run_number}
use Rattle.ckr_desk_memory.proofs.jobs.Jobs.room_for_end.Goals as goal

pub returns-clause-number : goal.returns-clause-number
returns-clause-number c row at =
    run_number c.make_room-room.new.self.desk c.args.run row (subst (λ (tables : TablesModel). AreNumbered 1 tables.runs) (sym c.make_room-room.ensures.desk) c.self.invariant.queued.numbered) at
