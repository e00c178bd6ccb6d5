use Rattle.std.proofs.Common.{◌∙◌, ℕ, List, ap, arith, subst, sym}
use Rattle.ckr_base.proofs.Results.{err-holds}
use Rattle.ckr_outside.specs.Faults.{Rose}
use Rattle.ckr_desk_refines.specs.RewriteRecord.{last_event}
use Rattle.ckr_desk_store.specs.OpenImages.{event_records}
use Rattle.ckr_desk.specs.Points.{ArePointsRead}
use Rattle.ckr_desk.specs.Soundness.{events_in, last_on}
use Rattle.ckr_desk.proofs.Openings.Answers.{found_behind, book_cause_behind, rose_before}
use Rattle.ckr_desk.proofs.Openings.Syncs.{reads-behind}
use Rattle.ckr_desk_refines.proofs.DiskEntries.DiskReads.{reads-on}
use Rattle.ckr_desk.proofs.opening.read_disk.Goals as goal

pub returns-clause-found : goal.returns-clause-found
returns-clause-found g c = λ told.
    let d = g.D.Disk in
    found_behind (d.content c.sync.new.self) (d.content c.layout_of.new.disk) (d.content c.read_jobs.new.disk) (d.size c.sync.new.self) (d.size c.read_jobs.new.disk)
    c.in_ok-layout.layout c.in_ok-jobs.field-0.jobs.tables.desk c.in_ok-jobs.field-0.place (c.in_ok-layout.ensures.exact told)
    c.in_ok-layout.ensures.only_reads.same c.in_ok-jobs.ensures.only_reads.same (c.in_ok-jobs.ensures.size ∙ c.in_ok-layout.ensures.size) (c.in_ok-jobs.ensures.read told)

pub returns-clause-points : goal.returns-clause-points
returns-clause-points g c =
    let d = g.D.Disk in
    let jobs = c.in_ok-jobs.field-0.jobs in
    subst (λ (image : List ℕ). ArePointsRead d.told c.in_ok-layout.layout jobs.tables.desk image jobs.points) (sym c.in_ok-jobs.ensures.only_reads.same) c.in_ok-jobs.ensures.points

pub returns-in_err-jobs-clause-cause : goal.returns-in_err-jobs-clause-cause
returns-in_err-jobs-clause-cause g c =
    let d = g.D.Disk in
    err-holds c.from_residual-in_err-jobs.result c.in_err-jobs.field-0.0 _ c.from_residual-in_err-jobs.ensures.1
    (book_cause_behind (Rose (d.faults c.args.disk.now) (d.faults c.read_jobs.new.disk)) (Rose (d.faults c.layout_of.new.disk) (d.faults c.read_jobs.new.disk)) d.told
    (d.content c.args.disk.now) (d.content c.sync.new.self) (d.content c.layout_of.new.disk) (d.size c.args.disk.now) c.in_ok-layout.layout c.in_err-jobs.field-0.0
    (rose_before (d.faults c.args.disk.now) (d.faults c.layout_of.new.disk) (d.faults c.read_jobs.new.disk) (omega (arith, c.in_ok-sync.ensures.cause.never_falls, c.in_ok-layout.ensures.faults)))
    (λ told. rw c.in_ok-sync.ensures.size at (c.in_ok-layout.ensures.exact told)) c.in_ok-sync.ensures.only_reads.same c.in_ok-layout.ensures.only_reads.same c.in_err-jobs.ensures.cause)

pub returns-clause-last : goal.returns-clause-last
unfolding last_on
returns-clause-last g c = λ told.
    ap (λ image. last_event (events_in (event_records c.in_ok-layout.layout image))) c.in_ok-jobs.ensures.only_reads.same ∙ c.in_ok-jobs.ensures.last told

pub returns-clause-synced : goal.returns-clause-synced
returns-clause-synced g c =
    let d = g.D.Disk in
    reads-behind d.content d.may_leave d.moment d.left_since c.args.disk.now c.sync.new.self c.layout_of.new.disk c.read_jobs.new.disk
    c.in_ok-sync.ensures.only_reads c.in_ok-sync.ensures.durable c.in_ok-layout.ensures.only_reads c.in_ok-jobs.ensures.only_reads

pub returns-in_err-event_bytes-clause-only_reads : goal.returns-in_err-event_bytes-clause-only_reads
returns-in_err-event_bytes-clause-only_reads g c =
    let d = g.D.Disk in
    reads-on d.content d.may_leave d.moment d.left_since c.args.disk.now c.layout_of.new.disk c.read_jobs.new.disk
    (reads-on d.content d.may_leave d.moment d.left_since c.args.disk.now c.sync.new.self c.layout_of.new.disk c.in_ok-sync.ensures.only_reads c.in_ok-layout.ensures.only_reads)
    c.in_ok-jobs.ensures.only_reads
