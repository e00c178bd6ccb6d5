use Rattle.std.proofs.Common.{ap, sym, subst, ◌∙◌}
use Rattle.ckr_desk_refines.specs.Memory.Rewrite.{HasRecordPlace}
use Rattle.ckr_desk.proofs.Images.Rewrite.{differs-so, image-there, lacking-then, lacks-most, place-there, set-some, updated-some, writing-left, written-by}
use Rattle.ckr_desk_refines.proofs.DiskEntries.LibrarySets.{set-stands}
use Rattle.ckr_desk.specs.State.{DeskView}
use Rattle.ckr_desk.proofs.desk.Desk.rewrite.Goals as goal

pub unreachable-requires : goal.unreachable-requires
unreachable-requires g c =
    let w = c.in-Rewritten in
    let tables = c.self.inside.jobs.tables.desk in
    updated-some tables w.job w.taken w.writes w.place w.lengths w.image c.args.event.now w.is
    (subst (λ (s : DeskView g.row.D.Denot). HasRecordPlace c.args.event.now s.jobs.tables.desk) (sym c.self.view_is) c.requires.place)
    (λ row at. c.in_default-updated.ensures row at)

pub unreachable-requires-in_default-get : goal.unreachable-requires-in_default-get
unreachable-requires-in_default-get g c =
    let w = c.in-Rewritten in
    let tables = c.self.inside.jobs.tables.desk in
    set-some tables w.job w.taken w.writes w.place w.lengths w.image c.args.event.now w.is
    (subst (λ (s : DeskView g.row.D.Denot). HasRecordPlace c.args.event.now s.jobs.tables.desk) (sym c.self.view_is) c.requires.place)
    c.in-Some.name (λ row at. sym (c.updated.ensures row at) ∙ c.in-Some.is) c.library.result.now c.library.ensures.sets (sym c.in_default-get.ensures)

pub write_record-requires-clause-place : goal.write_record-requires-clause-place
write_record-requires-clause-place g c κs within =
    let w = c.in-Rewritten in
    let tables = c.self.inside.jobs.tables.desk in
    place-there c.self.inside.store.layout tables w.job w.taken w.writes w.place w.lengths w.image c.args.event.now w.is c.in-Some.name (λ row at. sym (c.updated.ensures row at) ∙ c.in-Some.is)
    c.library.result.now c.library.ensures.sets c.in-Some-get.set.now (sym c.in-Some-get.ensures)
    (subst (λ (s : DeskView g.row.D.Denot). HasRecordPlace c.args.event.now s.jobs.tables.desk) (sym c.self.view_is) c.requires.place)

pub write_record-requires-clause-image : goal.write_record-requires-clause-image
write_record-requires-clause-image g c κs within =
    let w = c.in-Rewritten in
    let tables = c.self.inside.jobs.tables.desk in
    image-there c.self.inside.store.layout tables w.job w.taken w.writes w.place w.lengths w.image c.args.event.now w.is c.in-Some.name (λ row at. sym (c.updated.ensures row at) ∙ c.in-Some.is)
    c.library.result.now c.library.ensures.sets c.in-Some-get.set.now (sym c.in-Some-get.ensures)
    (subst (λ (s : DeskView g.row.D.Denot). HasRecordPlace c.args.event.now s.jobs.tables.desk) (sym c.self.view_is) c.requires.place)

pub write_record-requires-clause-stands : goal.write_record-requires-clause-stands
write_record-requires-clause-stands g c κs within =
    set-stands c.self.inside.store.layout c.library.result.now c.self.inside.jobs.tables.desk.sets c.in-Some.name c.in-Some-get.set.now c.library.ensures.sets (sym c.in-Some-get.ensures) c.self.invariant.jobs.are.laid.stand

pub returns-in_err-write_record-clause-left : goal.returns-in_err-write_record-clause-left
returns-in_err-write_record-clause-left g c =
    let d = g.D.Disk in
    let w = c.in-Rewritten in
    let layout = c.self.inside.store.layout in
    let tables = c.self.inside.jobs.tables.desk in
    let set = c.in-Some-get.set.now in
    let stands = set-stands layout c.library.result.now tables.sets c.in-Some.name set c.library.ensures.sets (sym c.in-Some-get.ensures) c.self.invariant.jobs.are.laid.stand in
    let is_open = ap (λ s. s.store.fault) c.self.view_is ∙ c.requires.is_open in
    rw (← c.self.view_is)
    (λ only.
    writing-left d.content d.may_leave d.moment d.left_since d.size c.args.event.now (record { store = c.self.inside.store; jobs = c.self.inside.jobs; machine_room = c.self.inside.machine_room }) only c.write_record.new.self.disk _ _
    (c.write_record.ensures.any_moment is_open) c.write_record.ensures.changes.since
    (λ image same.
    lacks-most layout tables w.job w.taken w.writes w.place w.lengths w.image c.args.event.now w.is c.in-Some.name (λ row at. sym (c.updated.ensures row at) ∙ c.in-Some.is)
    c.library.result.now c.library.ensures.sets set (sym c.in-Some-get.ensures) _ image
    (differs-so layout c.self.invariant.store.laid set stands w.place (place-there layout tables w.job w.taken w.writes w.place w.lengths w.image c.args.event.now w.is c.in-Some.name (λ row at. sym (c.updated.ensures row at) ∙ c.in-Some.is) c.library.result.now c.library.ensures.sets set (sym c.in-Some-get.ensures)
    (subst (λ (s : DeskView g.row.D.Denot). HasRecordPlace c.args.event.now s.jobs.tables.desk) (sym c.self.view_is) c.requires.place)) _ image same)))

pub returns-clause-written : goal.returns-clause-written
returns-clause-written g c =
    let d = g.D.Disk in
    let w = c.in-Rewritten in
    let layout = c.self.inside.store.layout in
    let tables = c.self.inside.jobs.tables.desk in
    let set = c.in-Some-get.set.now in
    rw (← c.self.view_is)
    (λ told.
    written-by layout tables w.job w.taken w.writes w.place w.lengths w.image c.args.event.now w.is c.in-Some.name (λ row at. sym (c.updated.ensures row at) ∙ c.in-Some.is)
    c.library.result.now c.library.ensures.sets set (sym c.in-Some-get.ensures) (d.content c.self.inside.store.disk) (d.content c.write_record.new.self.disk)
    (record { written = c.in_ok-write_record.ensures.written told; others = c.write_record.ensures.others told }))

pub returns-clause-left : goal.returns-clause-left
returns-clause-left g c =
    let d = g.D.Disk in
    let w = c.in-Rewritten in
    let layout = c.self.inside.store.layout in
    let tables = c.self.inside.jobs.tables.desk in
    let set = c.in-Some-get.set.now in
    let stands = set-stands layout c.library.result.now tables.sets c.in-Some.name set c.library.ensures.sets (sym c.in-Some-get.ensures) c.self.invariant.jobs.are.laid.stand in
    let is_open = ap (λ s. s.store.fault) c.self.view_is ∙ c.requires.is_open in
    rw (← c.self.view_is)
    (λ only.
    writing-left d.content d.may_leave d.moment d.left_since d.size c.args.event.now (record { store = c.self.inside.store; jobs = c.self.inside.jobs; machine_room = c.self.inside.machine_room }) only c.write_record.new.self.disk _ _
    (c.write_record.ensures.any_moment is_open) c.write_record.ensures.changes.since
    (λ image same.
    lacks-most layout tables w.job w.taken w.writes w.place w.lengths w.image c.args.event.now w.is c.in-Some.name (λ row at. sym (c.updated.ensures row at) ∙ c.in-Some.is)
    c.library.result.now c.library.ensures.sets set (sym c.in-Some-get.ensures) _ image
    (differs-so layout c.self.invariant.store.laid set stands w.place (place-there layout tables w.job w.taken w.writes w.place w.lengths w.image c.args.event.now w.is c.in-Some.name (λ row at. sym (c.updated.ensures row at) ∙ c.in-Some.is) c.library.result.now c.library.ensures.sets set (sym c.in-Some-get.ensures)
    (subst (λ (s : DeskView g.row.D.Denot). HasRecordPlace c.args.event.now s.jobs.tables.desk) (sym c.self.view_is) c.requires.place)) _ image same)))

pub returns-clause-pending : goal.returns-clause-pending
returns-clause-pending g c =
    let d = g.D.Disk in
    let laws = g.met.D.Disk g.world.𝓛 g.world.𝓜 g.world.𝓡 ((λ s x. x), (λ x. x), (λ x. x), λ x. x) in
    let w = c.in-Rewritten in
    let layout = c.self.inside.store.layout in
    let tables = c.self.inside.jobs.tables.desk in
    let set = c.in-Some-get.set.now in
    let stands = set-stands layout c.library.result.now tables.sets c.in-Some.name set c.library.ensures.sets (sym c.in-Some-get.ensures) c.self.invariant.jobs.are.laid.stand in
    let is_open = ap (λ s. s.store.fault) c.self.view_is ∙ c.requires.is_open in
    rw (← c.self.view_is)
    (λ only.
    lacking-then d.content d.may_leave d.moment d.left_since d.size c.args.event.now (record { store = c.self.inside.store; jobs = c.self.inside.jobs; machine_room = c.self.inside.machine_room }) only c.write_record.new.self.disk
    (writing-left d.content d.may_leave d.moment d.left_since d.size c.args.event.now (record { store = c.self.inside.store; jobs = c.self.inside.jobs; machine_room = c.self.inside.machine_room }) only c.write_record.new.self.disk _ _
    (c.write_record.ensures.any_moment is_open) c.write_record.ensures.changes.since
    (λ image same.
    lacks-most layout tables w.job w.taken w.writes w.place w.lengths w.image c.args.event.now w.is c.in-Some.name (λ row at. sym (c.updated.ensures row at) ∙ c.in-Some.is)
    c.library.result.now c.library.ensures.sets set (sym c.in-Some-get.ensures) _ image
    (differs-so layout c.self.invariant.store.laid set stands w.place (place-there layout tables w.job w.taken w.writes w.place w.lengths w.image c.args.event.now w.is c.in-Some.name (λ row at. sym (c.updated.ensures row at) ∙ c.in-Some.is) c.library.result.now c.library.ensures.sets set (sym c.in-Some-get.ensures)
    (subst (λ (s : DeskView g.row.D.Denot). HasRecordPlace c.args.event.now s.jobs.tables.desk) (sym c.self.view_is) c.requires.place)) _ image same)))
    (laws.counts_now c.write_record.new.self.disk))
