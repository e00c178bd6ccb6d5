use Rattle.std.proofs.Common.{◌≡◌, Some, subst}
use Rattle.ckr_points.specs.Rows.{TablesModel, run_of}
use Rattle.ckr_desk_memory.proofs.Rooms.{end-stays, mount-prepared}
use Rattle.ckr_desk_memory.proofs.jobs.Jobs.prepare_mounts.Goals as goal

pub returns-clause-ok : goal.returns-clause-ok
returns-clause-ok c =
    let room = c.in_ok-room_for_end.ensures in
    let e = c.prepare_to_tell.ensures in
    mount-prepared c.prepare_to_tell.new.self c.args.run (end-stays c.room_for_end.new.self.tables c.prepare_to_tell.new.self.tables c.args.run room.each e.desk e.room room.end)
    (λ row at. room.number row (subst (λ (tables : TablesModel). run_of tables c.args.run ≡ Some row) e.desk at)) c.args.plan.now c.prepare_to_tell.result e.ok
