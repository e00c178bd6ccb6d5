use Rattle.std.proofs.Common.{[], arith, ap, refl, subst, ◌∙◌}
use Rattle.ckr_desk.specs.NoChange.{StaysBy}
use Rattle.ckr_desk.specs.Soundness.{state_of}
use Rattle.ckr_desk.specs.State.{disk_of, machine_room_of}
use Rattle.ckr_session.specs.declared.stop.Halt.TheVariants as Halts
use Rattle.ckr_session.specs.Service.{ListHalt, staffed_by, staffed_of}
use Rattle.ckr_session.proofs.Service.Staff.{staffed-same}
use Rattle.ckr_session.proofs.Cards.{on_ok}
use Rattle.ckr_session.proofs.Calls.Halts.{memory_here}
use Rattle.ckr_session.proofs.Calls.Stops.{came_there, goes_none, goes_on_to, has_none, nothing_came, with_failed_disk}
use Rattle.ckr_session.proofs.clerk.Clerk.list.Goals as goal

pub returns-in-Ok-Some-clause-goes : goal.returns-in-Ok-Some-clause-goes
returns-in-Ok-Some-clause-goes g c holds =
    let d = g.D.Disk in
    let laws = g.met.D.Disk g.world.𝓛 g.world.𝓜 g.world.𝓡 ((λ s x. x), (λ x. x), (λ x. x), λ x. x) in
    let old = c.args.self.now.desk in
    let new = c.records.new.self in
    let e = c.in-Ok-Some.ensures in
    let kept = e.kept c.requires.is_open holds in
    on_ok c.tell.result _ (goes_none d.content d.moment d.left_since d.size old new e.keeps.same_layout e.keeps.same_size kept
    (has_none d.content d.moment d.left_since d.size d.may_leave old new (laws.reads_an_image (disk_of new) holds.tells) (laws.counts_now (disk_of new)) kept))

pub returns-in-Ok-None-clause-goes : goal.returns-in-Ok-None-clause-goes
returns-in-Ok-None-clause-goes g c holds =
    let d = g.D.Disk in
    let laws = g.met.D.Disk g.world.𝓛 g.world.𝓜 g.world.𝓡 ((λ s x. x), (λ x. x), (λ x. x), λ x. x) in
    let old = c.args.self.now.desk in
    let new = c.records.new.self in
    let e = c.in-Ok-None.ensures in
    let kept = e.kept c.requires.is_open holds in
    goes_on_to d.content d.moment d.left_since d.size c.refuse_line.result old new _ c.refuse_line.ensures.desk (goes_none d.content d.moment d.left_since d.size old new e.keeps.same_layout e.keeps.same_size kept
    (has_none d.content d.moment d.left_since d.size d.may_leave old new (laws.reads_an_image (disk_of new) holds.tells) (laws.counts_now (disk_of new)) kept))

pub returns-in-Ok-Some-clause-events : goal.returns-in-Ok-Some-clause-events
returns-in-Ok-Some-clause-events g c holds =
    let d = g.D.Disk in
    let laws = g.met.D.Disk g.world.𝓛 g.world.𝓜 g.world.𝓡 ((λ s x. x), (λ x. x), (λ x. x), λ x. x) in
    let old = c.args.self.now.desk in
    let new = c.records.new.self in
    on_ok c.tell.result _
    (has_none d.content d.moment d.left_since d.size d.may_leave old new (laws.reads_an_image (disk_of new) holds.tells) (laws.counts_now (disk_of new)) (c.in-Ok-Some.ensures.kept c.requires.is_open holds))

pub returns-in-Ok-None-clause-events : goal.returns-in-Ok-None-clause-events
returns-in-Ok-None-clause-events g c holds =
    let d = g.D.Disk in
    let laws = g.met.D.Disk g.world.𝓛 g.world.𝓜 g.world.𝓡 ((λ s x. x), (λ x. x), (λ x. x), λ x. x) in
    let old = c.args.self.now.desk in
    let new = c.records.new.self in
    on_ok c.refuse_line.result _
    (rw c.refuse_line.ensures.desk
    (has_none d.content d.moment d.left_since d.size d.may_leave old new (laws.reads_an_image (disk_of new) holds.tells) (laws.counts_now (disk_of new)) (c.in-Ok-None.ensures.kept c.requires.is_open holds)))

pub returns-in-Ok-Some-clause-halt : goal.returns-in-Ok-Some-clause-halt
returns-in-Ok-Some-clause-halt g c holds =
    let d = g.D.Disk in
    let laws = g.met.D.Disk g.world.𝓛 g.world.𝓜 g.world.𝓡 ((λ s x. x), (λ x. x), (λ x. x), λ x. x) in
    let old = c.args.self.now.desk in
    let new = c.records.new.self in
    let e = c.in-Ok-Some.ensures in
    let kept = e.kept c.requires.is_open holds in
    let none = has_none d.content d.moment d.left_since d.size d.may_leave old new (laws.reads_an_image (disk_of new) holds.tells) (laws.counts_now (disk_of new)) kept in
    memory_here d.content d.moment d.left_since d.size c.tell.result old new new [] (λ halt. ListHalt halt c.args.out.now c.tell.new.out) refl
    (goes_none d.content d.moment d.left_since d.size old new e.keeps.same_layout e.keeps.same_size kept none) (came_there d.content old new [] e.keeps.same_layout none) (refl, refl) c.tell.ensures.halt

pub returns-in-Ok-None-clause-halt : goal.returns-in-Ok-None-clause-halt
returns-in-Ok-None-clause-halt g c holds =
    let d = g.D.Disk in
    let laws = g.met.D.Disk g.world.𝓛 g.world.𝓜 g.world.𝓡 ((λ s x. x), (λ x. x), (λ x. x), λ x. x) in
    let old = c.args.self.now.desk in
    let new = c.records.new.self in
    let e = c.in-Ok-None.ensures in
    let kept = e.kept c.requires.is_open holds in
    let none = has_none d.content d.moment d.left_since d.size d.may_leave old new (laws.reads_an_image (disk_of new) holds.tells) (laws.counts_now (disk_of new)) kept in
    memory_here d.content d.moment d.left_since d.size c.refuse_line.result old new _ [] (λ halt. ListHalt halt c.args.out.now c.refuse_line.new.out) c.refuse_line.ensures.desk
    (goes_none d.content d.moment d.left_since d.size old new e.keeps.same_layout e.keeps.same_size kept none) (came_there d.content old new [] e.keeps.same_layout none) (refl, refl) c.refuse_line.ensures.halt

pub returns-in-Err-NoMemory-clause-halt : goal.returns-in-Err-NoMemory-clause-halt
returns-in-Err-NoMemory-clause-halt g c holds =
    let d = g.D.Disk in
    let old = c.args.self.now.desk in
    let new = c.records.new.self in
    let e = c.in-Err-NoMemory.ensures in
    nothing_came d.content d.moment d.left_since d.size old new (ListHalt Halts.Memory c.args.out.now c.args.out.now) (e.kept c.requires.is_open holds)
    (subst (StaysBy d.content d.may_leave d.faults old new) c.in-Err-NoMemory.field-0-is e.keeps.stays).reads (refl, refl)

pub returns-in-Err-DiskFault-clause-halt : goal.returns-in-Err-DiskFault-clause-halt
returns-in-Err-DiskFault-clause-halt g c holds =
    let d = g.D.Disk in
    let laws = g.met.D.Disk g.world.𝓛 g.world.𝓜 g.world.𝓡 ((λ s x. x), (λ x. x), (λ x. x), λ x. x) in
    let old = c.args.self.now.desk in
    let new = c.records.new.self in
    let e = c.in-Err-DiskFault.ensures in
    with_failed_disk d.content d.moment d.left_since d.size d.may_leave old new [] (ListHalt Halts.Disk c.args.out.now c.args.out.now)
    (laws.reads_an_image (disk_of new) holds.tells) (laws.counts_now (disk_of new)) (omega arith) (e.kept c.requires.is_open holds)
    (refl, refl, refl)

pub returns-in-Ok-Some-clause-state : goal.returns-in-Ok-Some-clause-state
returns-in-Ok-Some-clause-state g c holds =
    let d = g.D.Disk in
    let e = c.in-Ok-Some.ensures in
    let old = c.args.self.now in
    on_ok c.tell.result _ (staffed-same (staffed_by d.content c.records.new.self old.roster) (staffed_of d.content old) (e.comes holds).after e.machine_room refl)

pub returns-in-Ok-Some-clause-trusted : goal.returns-in-Ok-Some-clause-trusted
returns-in-Ok-Some-clause-trusted g c = on_ok c.tell.result _ (λ holds. (c.in-Ok-Some.ensures.comes holds).trusted)

pub returns-in-Ok-None-clause-state : goal.returns-in-Ok-None-clause-state
returns-in-Ok-None-clause-state g c holds =
    let d = g.D.Disk in
    let e = c.in-Ok-None.ensures in
    let old = c.args.self.now in
    let new = c.refuse_line.new.self in
    on_ok c.refuse_line.result _
    (staffed-same (staffed_of d.content new) (staffed_of d.content old)
    (ap (state_of d.content) c.refuse_line.ensures.desk ∙ (e.comes holds).after) (ap machine_room_of c.refuse_line.ensures.desk ∙ e.machine_room) c.refuse_line.ensures.roster)

pub returns-in-Ok-None-clause-trusted : goal.returns-in-Ok-None-clause-trusted
returns-in-Ok-None-clause-trusted g c = on_ok c.refuse_line.result _ (λ holds. rw c.refuse_line.ensures.desk (c.in-Ok-None.ensures.comes holds).trusted)
