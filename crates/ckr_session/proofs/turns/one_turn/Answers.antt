use Rattle.std.proofs.Common.{refl}
use Rattle.ckr_desk.specs.Model.Reply.{Reply}
use Rattle.ckr_desk.proofs.Attendances.{attended-few, attended-fit, attended-full}
use Rattle.ckr_desk.specs.State.{disk_of}
use Rattle.ckr_session.specs.declared.stop.Halt.TheVariants as Halts
use Rattle.ckr_session.specs.Service.{attended_of}
use Rattle.ckr_session.specs.Staff.{attended_event}
use Rattle.ckr_session.specs.Turns.{TurnHalt}
use Rattle.ckr_session.proofs.Service.Staff.{attended-behind}
use Rattle.ckr_session.proofs.Calls.Stops.{failed_kept, goes_done, with_failed_disk, with_full_book, without_memory}
use Rattle.ckr_session.proofs.turns.one_turn.Goals as goal

pub returns-in-Ok-clause-goes : goal.returns-in-Ok-clause-goes
returns-in-Ok-clause-goes g c holds =
    let d = g.D.Disk in
    let laws = g.met.D.Disk g.world.𝓛 g.world.𝓜 g.world.𝓡 ((λ s x. x), (λ x. x), (λ x. x), λ x. x) in
    let e = c.in-Ok.ensures in
    goes_done d.content d.moment d.left_since d.size d.told d.may_leave c.args.desk.now c.turn.new.self _ e.keeps.same_layout e.keeps.same_size (e.kept c.requires.is_open holds) (e.comes holds).events
    (e.comes holds).trusted (laws.only_now (disk_of c.turn.new.self))

pub returns-in-Err-NoMemory-clause-halt : goal.returns-in-Err-NoMemory-clause-halt
returns-in-Err-NoMemory-clause-halt g c holds =
    let d = g.D.Disk in
    let old = c.args.desk.now in
    let e = c.in-Err-NoMemory.ensures in
    without_memory d.content d.moment d.left_since d.size Reply d.may_leave d.faults old c.turn.new.self c.in-Err-NoMemory.field-0 _ (TurnHalt Halts.Memory c.args.turn (attended_of d.content old))
    c.in-Err-NoMemory.field-0-is (e.kept c.requires.is_open holds) e.keeps.stays (refl, refl)

pub returns-in-Err-BookFull-clause-halt : goal.returns-in-Err-BookFull-clause-halt
returns-in-Err-BookFull-clause-halt g c holds =
    let d = g.D.Disk in
    let old = c.args.desk.now in
    let e = c.in-Err-BookFull.ensures in
    with_full_book d.content d.moment d.left_since d.size Reply d.may_leave d.faults old c.turn.new.self c.in-Err-BookFull.field-0 c.in-Err-BookFull.field-0-0 c.in-Err-BookFull.field-0-1 _
    (TurnHalt Halts.Book c.args.turn (attended_of d.content old)) c.in-Err-BookFull.field-0-is (e.kept c.requires.is_open holds) e.keeps.stays
    (attended-full (attended_of d.content old) c.args.turn c.in-Err-BookFull.field-0 c.in-Err-BookFull.field-0-0 c.in-Err-BookFull.field-0-1 c.in-Err-BookFull.field-0-is (e.comes holds).cause, refl, refl)

pub returns-in-Err-DiskFault-clause-halt : goal.returns-in-Err-DiskFault-clause-halt
returns-in-Err-DiskFault-clause-halt g c holds =
    let d = g.D.Disk in
    let laws = g.met.D.Disk g.world.𝓛 g.world.𝓜 g.world.𝓡 ((λ s x. x), (λ x. x), (λ x. x), λ x. x) in
    let old = c.args.desk.now in
    let new = c.turn.new.self in
    let e = c.in-Err-DiskFault.ensures in
    let s = attended_of d.content old in
    let came = attended_event s c.args.turn in
    with_failed_disk d.content d.moment d.left_since d.size d.may_leave old new came (TurnHalt Halts.Disk c.args.turn s)
    (laws.reads_an_image (disk_of new) holds.tells) (laws.counts_now (disk_of new)) (attended-few s c.args.turn)
    (failed_kept d.content d.moment d.left_since d.size Reply old new c.in-Err-DiskFault.field-0 came c.in-Err-DiskFault.field-0-is (e.kept c.requires.is_open holds))
    (refl, refl)

pub returns-in-Ok-clause-fits : goal.returns-in-Ok-clause-fits
returns-in-Ok-clause-fits g c holds = attended-fit (attended_of g.D.Disk.content c.args.desk.now) c.args.turn (c.in-Ok.ensures.comes holds).fits

pub returns-in-Ok-clause-after : goal.returns-in-Ok-clause-after
returns-in-Ok-clause-after g c holds =
    let d = g.D.Disk in
    let e = c.in-Ok.ensures in
    attended-behind (attended_of d.content c.args.desk.now) (attended_of d.content c.turn.new.self) c.args.turn (e.comes holds).after (e.machine_room holds)

pub returns-in-Ok-clause-events : goal.returns-in-Ok-clause-events
returns-in-Ok-clause-events g c holds = (c.in-Ok.ensures.comes holds).events

pub returns-in-Ok-clause-trusted : goal.returns-in-Ok-clause-trusted
returns-in-Ok-clause-trusted g c holds = (c.in-Ok.ensures.comes holds).trusted
