use Rattle.std.proofs.Common.{sym, ◌∙◌}
use Rattle.std.specs.Option.{option_copied}
use Rattle.ckr_desk_memory.proofs.Rooms.{room-free}
use Rattle.ckr_desk_memory.proofs.jobs.Jobs.make_room.Goals as goal

pub returns-then-not-needs_room-clause-tables : goal.returns-then-not-needs_room-clause-tables
returns-then-not-needs_room-clause-tables c =
    (room-free c.args.self.now.tables c.args.self.now.queue_room c.args.event.now (option_copied c.args.deck) (sym c.needs_room.ensures ∙ c.if-not-needs_room.true)).tables_free

pub returns-then-not-needs_room-clause-queue : goal.returns-then-not-needs_room-clause-queue
returns-then-not-needs_room-clause-queue c =
    (room-free c.args.self.now.tables c.args.self.now.queue_room c.args.event.now (option_copied c.args.deck) (sym c.needs_room.ensures ∙ c.if-not-needs_room.true)).queue_free

pub returns-then-not-needs_room-clause-uses : goal.returns-then-not-needs_room-clause-uses
returns-then-not-needs_room-clause-uses c =
    (room-free c.args.self.now.tables c.args.self.now.queue_room c.args.event.now (option_copied c.args.deck) (sym c.needs_room.ensures ∙ c.if-not-needs_room.true)).uses_free
