use Rattle.std.proofs.Common.{sym, arith}
use Rattle.ckr_steps.proofs.Growth.{IsLonger, length_set, stored_longer, there_longer, IsWritten, shows_written, changes_keeping}
use Rattle.ckr_steps.proofs.unit_writes.append.Goals as goal

pub overflow_add-length : goal.overflow_add-length
overflow_add-length g c =
    let stands = c.requires.stored.stands c.args.name.now c.in-Some.set.now (sym c.in-Some.ensures) in
    omega (arith, stands.length_fits, stands.space_below)

pub write_next-requires-clause-stands : goal.write_next-requires-clause-stands
write_next-requires-clause-stands g c κs within = c.requires.stored.stands c.args.name.now c.in-Some.set.now (sym c.in-Some.ensures)

pub returns-in_err-write_next-clause-keeps : goal.returns-in_err-write_next-clause-keeps
returns-in_err-write_next-clause-keeps g c =
    let d = g.D.Disk in
    changes_keeping c.args.layout.now c.requires.layout c.args.name.now c.in-Some.set.now c.args.library.now c.requires.stored (sym c.in-Some.ensures) (omega arith)
    d.told d.content d.may_leave d.moment d.left_since c.args.disk.now c.write_next.new.disk c.write_next.ensures.changes

pub returns-clause-shows : goal.returns-clause-shows
returns-clause-shows g c names model shows =
    let d = g.D.Disk in
    let set = c.in-Some.set.now in
    let grows : IsLonger c.args.name.now set c.args.library.now c.set_length.new.self = length_set c.args.name.now set c.args.library.now c.set_length.new.self (sym c.in-Some.ensures) c.set_length.ensures.sets in
    let written : IsWritten d.told (d.content c.args.disk.now) (d.content c.write_next.new.disk) c.args.layout.now set c.args.image.now = record { here = c.in_ok-write_next.ensures.written; others = c.write_next.ensures.others } in
    shows_written d.told (d.content c.args.disk.now) (d.content c.write_next.new.disk) c.args.layout.now c.args.name.now set c.args.library.now c.set_length.new.self c.args.image.now c.requires.stored grows written names model shows

pub returns-clause-stored : goal.returns-clause-stored
returns-clause-stored g c =
    stored_longer c.args.layout.now c.args.name.now c.in-Some.set.now c.args.library.now c.set_length.new.self c.requires.stored
    (length_set c.args.name.now c.in-Some.set.now c.args.library.now c.set_length.new.self (sym c.in-Some.ensures) c.set_length.ensures.sets) (omega arith)

pub returns-clause-there : goal.returns-clause-there
returns-clause-there g c =
    there_longer c.args.name.now c.in-Some.set.now c.args.library.now c.set_length.new.self
    (length_set c.args.name.now c.in-Some.set.now c.args.library.now c.set_length.new.self (sym c.in-Some.ensures) c.set_length.ensures.sets)

pub returns-clause-keeps : goal.returns-clause-keeps
returns-clause-keeps g c =
    let d = g.D.Disk in
    changes_keeping c.args.layout.now c.requires.layout c.args.name.now c.in-Some.set.now c.args.library.now c.requires.stored (sym c.in-Some.ensures) (omega arith)
    d.told d.content d.may_leave d.moment d.left_since c.args.disk.now c.write_next.new.disk c.write_next.ensures.changes
