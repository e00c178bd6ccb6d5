use Rattle.std.proofs.Common.{Bool, ap, refl, ◌∙◌}
use Rattle.ckr_desk.proofs.Calls.FullBooks.{call-fits, call-full}
use Rattle.ckr_desk.proofs.Calls.OneEvent.{call-few}
use Rattle.ckr_desk.specs.Requests.{call_fits, event_in, spelled}
use Rattle.ckr_desk.specs.Soundness.{state_of}
use Rattle.ckr_desk.specs.State.{disk_of, machine_room_of, tables_in_memory}
use Rattle.ckr_session.specs.declared.stop.Halt.TheVariants as Halts
use Rattle.ckr_session.specs.Calls.{call_for}
use Rattle.ckr_session.specs.Service.{ChangeHalt, staffed_by, staffed_of}
use Rattle.ckr_session.proofs.Cards.{on_ok}
use Rattle.ckr_session.proofs.Calls.Halts.{memory_here}
use Rattle.ckr_session.proofs.Calls.Stops.{came_there, failed_kept, goes_done, goes_on_to, with_failed_disk, with_full_book, without_memory}
use Rattle.ckr_session.proofs.Service.Answers.{comes_none, comes_with}
use Rattle.ckr_session.proofs.Service.Staff.{staffed-behind}
use Rattle.ckr_session.proofs.clerk.Clerk.change.Goals as goal

pub returns-in-Ok-true-clause-goes : goal.returns-in-Ok-true-clause-goes
returns-in-Ok-true-clause-goes g c holds =
    let d = g.D.Disk in
    let laws = g.met.D.Disk g.world.𝓛 g.world.𝓜 g.world.𝓡 ((λ s x. x), (λ x. x), (λ x. x), λ x. x) in
    let old = c.args.self.now.desk in
    let e = c.in-Ok-true.ensures in
    on_ok c.tell_changed.result _ (goes_done d.content d.moment d.left_since d.size d.told d.may_leave old c.change_job.new.desk _ e.keeps.same_layout e.keeps.same_size (e.kept c.requires.is_open holds) (e.told holds.tells)
    (e.comes holds).trusted (laws.only_now (disk_of c.change_job.new.desk)))

pub returns-in-Ok-false-clause-goes : goal.returns-in-Ok-false-clause-goes
returns-in-Ok-false-clause-goes g c holds =
    let d = g.D.Disk in
    let laws = g.met.D.Disk g.world.𝓛 g.world.𝓜 g.world.𝓡 ((λ s x. x), (λ x. x), (λ x. x), λ x. x) in
    let old = c.args.self.now.desk in
    let e = c.in-Ok-false.ensures in
    goes_on_to d.content d.moment d.left_since d.size c.refuse_line.result old c.change_job.new.desk _ c.refuse_line.ensures.desk
    (goes_done d.content d.moment d.left_since d.size d.told d.may_leave old c.change_job.new.desk _ e.keeps.same_layout e.keeps.same_size (e.kept c.requires.is_open holds) (e.told holds.tells)
    (e.comes holds).trusted (laws.only_now (disk_of c.change_job.new.desk)))

pub returns-in-Ok-true-clause-halt : goal.returns-in-Ok-true-clause-halt
returns-in-Ok-true-clause-halt g c holds =
    let d = g.D.Disk in
    let laws = g.met.D.Disk g.world.𝓛 g.world.𝓜 g.world.𝓡 ((λ s x. x), (λ x. x), (λ x. x), λ x. x) in
    let old = c.args.self.now.desk in
    let new = c.change_job.new.desk in
    let e = c.in-Ok-true.ensures in
    let call = call_for c.args.change (tables_in_memory old) c.args.job in
    let came = spelled (event_in call) in
    let fits = call_fits (state_of d.content old) call in
    memory_here d.content d.moment d.left_since d.size c.tell_changed.result old new new came (λ halt. ChangeHalt halt fits came c.args.out.now c.tell_changed.new.out) refl
    (goes_done d.content d.moment d.left_since d.size d.told d.may_leave old new came e.keeps.same_layout e.keeps.same_size (e.kept c.requires.is_open holds) (e.told holds.tells)
    (e.comes holds).trusted (laws.only_now (disk_of new)))
    (came_there d.content old new came e.keeps.same_layout (e.told holds.tells)) (comes_with fits came (call-fits (state_of d.content old) call (e.comes holds).fits)) c.tell_changed.ensures.halt

pub returns-in-Ok-false-clause-halt : goal.returns-in-Ok-false-clause-halt
returns-in-Ok-false-clause-halt g c holds =
    let d = g.D.Disk in
    let laws = g.met.D.Disk g.world.𝓛 g.world.𝓜 g.world.𝓡 ((λ s x. x), (λ x. x), (λ x. x), λ x. x) in
    let old = c.args.self.now.desk in
    let new = c.change_job.new.desk in
    let e = c.in-Ok-false.ensures in
    let call = call_for c.args.change (tables_in_memory old) c.args.job in
    let came = spelled (event_in call) in
    let fits = call_fits (state_of d.content old) call in
    memory_here d.content d.moment d.left_since d.size c.refuse_line.result old new _ came (λ halt. ChangeHalt halt fits came c.args.out.now c.refuse_line.new.out) c.refuse_line.ensures.desk
    (goes_done d.content d.moment d.left_since d.size d.told d.may_leave old new came e.keeps.same_layout e.keeps.same_size (e.kept c.requires.is_open holds) (e.told holds.tells)
    (e.comes holds).trusted (laws.only_now (disk_of new)))
    (came_there d.content old new came e.keeps.same_layout (e.told holds.tells)) (comes_with fits came (call-fits (state_of d.content old) call (e.comes holds).fits)) c.refuse_line.ensures.halt

pub returns-in-Err-NoMemory-clause-halt : goal.returns-in-Err-NoMemory-clause-halt
returns-in-Err-NoMemory-clause-halt g c holds =
    let d = g.D.Disk in
    let old = c.args.self.now.desk in
    let e = c.in-Err-NoMemory.ensures in
    let call = call_for c.args.change (tables_in_memory old) c.args.job in
    without_memory d.content d.moment d.left_since d.size Bool d.may_leave d.faults old c.change_job.new.desk c.in-Err-NoMemory.field-0 _
    (ChangeHalt Halts.Memory (call_fits (state_of d.content old) call) (spelled (event_in call)) c.args.out.now c.args.out.now)
    c.in-Err-NoMemory.field-0-is (e.kept c.requires.is_open holds) e.keeps.stays (comes_none _)

pub returns-in-Err-BookFull-clause-halt : goal.returns-in-Err-BookFull-clause-halt
returns-in-Err-BookFull-clause-halt g c holds =
    let d = g.D.Disk in
    let old = c.args.self.now.desk in
    let e = c.in-Err-BookFull.ensures in
    let call = call_for c.args.change (tables_in_memory old) c.args.job in
    with_full_book d.content d.moment d.left_since d.size Bool d.may_leave d.faults old c.change_job.new.desk c.in-Err-BookFull.field-0 c.in-Err-BookFull.field-0-0 c.in-Err-BookFull.field-0-1 _
    (ChangeHalt Halts.Book (call_fits (state_of d.content old) call) (spelled (event_in call)) c.args.out.now c.args.out.now)
    c.in-Err-BookFull.field-0-is (e.kept c.requires.is_open holds) e.keeps.stays
    (call-full (state_of d.content old) call c.in-Err-BookFull.field-0 c.in-Err-BookFull.field-0-0 c.in-Err-BookFull.field-0-1 c.in-Err-BookFull.field-0-is (e.comes holds).cause, refl, refl, refl)

pub returns-in-Err-DiskFault-clause-halt : goal.returns-in-Err-DiskFault-clause-halt
returns-in-Err-DiskFault-clause-halt g c holds =
    let d = g.D.Disk in
    let laws = g.met.D.Disk g.world.𝓛 g.world.𝓜 g.world.𝓡 ((λ s x. x), (λ x. x), (λ x. x), λ x. x) in
    let old = c.args.self.now.desk in
    let new = c.change_job.new.desk in
    let e = c.in-Err-DiskFault.ensures in
    let call = call_for c.args.change (tables_in_memory old) c.args.job in
    let came = spelled (event_in call) in
    with_failed_disk d.content d.moment d.left_since d.size d.may_leave old new came (ChangeHalt Halts.Disk (call_fits (state_of d.content old) call) came c.args.out.now c.args.out.now)
    (laws.reads_an_image (disk_of new) holds.tells) (laws.counts_now (disk_of new)) (call-few call)
    (failed_kept d.content d.moment d.left_since d.size Bool old new c.in-Err-DiskFault.field-0 came c.in-Err-DiskFault.field-0-is (e.kept c.requires.is_open holds))
    (refl, refl, refl)

pub returns-in-Ok-true-clause-fits : goal.returns-in-Ok-true-clause-fits
returns-in-Ok-true-clause-fits g c holds =
    let d = g.D.Disk in
    let old = c.args.self.now.desk in
    on_ok c.tell_changed.result _ (call-fits (state_of d.content old) (call_for c.args.change (tables_in_memory old) c.args.job) (c.in-Ok-true.ensures.comes holds).fits)

pub returns-in-Ok-true-clause-after : goal.returns-in-Ok-true-clause-after
returns-in-Ok-true-clause-after g c holds =
    let d = g.D.Disk in
    let e = c.in-Ok-true.ensures in
    let old = c.args.self.now in
    on_ok c.tell_changed.result _
    (staffed-behind (staffed_of d.content old) (staffed_by d.content c.change_job.new.desk old.roster) (call_for c.args.change (tables_in_memory old.desk) c.args.job) (e.comes holds).after e.machine_room refl)

pub returns-in-Ok-true-clause-trusted : goal.returns-in-Ok-true-clause-trusted
returns-in-Ok-true-clause-trusted g c = on_ok c.tell_changed.result _ (λ holds. (c.in-Ok-true.ensures.comes holds).trusted)

pub returns-in-Ok-false-clause-fits : goal.returns-in-Ok-false-clause-fits
returns-in-Ok-false-clause-fits g c holds =
    let d = g.D.Disk in
    let old = c.args.self.now.desk in
    on_ok c.refuse_line.result _ (call-fits (state_of d.content old) (call_for c.args.change (tables_in_memory old) c.args.job) (c.in-Ok-false.ensures.comes holds).fits)

pub returns-in-Ok-false-clause-after : goal.returns-in-Ok-false-clause-after
returns-in-Ok-false-clause-after g c holds =
    let d = g.D.Disk in
    let e = c.in-Ok-false.ensures in
    let old = c.args.self.now in
    on_ok c.refuse_line.result _
    (staffed-behind (staffed_of d.content old) (staffed_of d.content c.refuse_line.new.self) (call_for c.args.change (tables_in_memory old.desk) c.args.job)
    (ap (state_of d.content) c.refuse_line.ensures.desk ∙ (e.comes holds).after) (ap machine_room_of c.refuse_line.ensures.desk ∙ e.machine_room) c.refuse_line.ensures.roster)

pub returns-in-Ok-false-clause-trusted : goal.returns-in-Ok-false-clause-trusted
returns-in-Ok-false-clause-trusted g c = on_ok c.refuse_line.result _ (λ holds. rw c.refuse_line.ensures.desk (c.in-Ok-false.ensures.comes holds).trusted)
