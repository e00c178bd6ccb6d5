use Rattle.std.proofs.Common.{◌≡◌, ◌∙◌, None, List, ℕ, ap, refl, subst, sym}
use Rattle.ckr_base.proofs.Results.{err-holds}
use Rattle.ckr_desk_refines.specs.Memory.OwnSteps.{HavePoints}
use Rattle.ckr_outside.specs.Faults.{Rose}
use Rattle.ckr_desk_refines.specs.Tables.View.{RoomyTables}
use Rattle.ckr_desk.proofs.Layouts.{jobs-stay, kept-opened}
use Rattle.ckr_desk.proofs.Openings.Accepted.{entries-cause, read-so, replay-cause}
use Rattle.ckr_desk.proofs.Openings.Answers.{rose_before}
use Rattle.ckr_desk.proofs.Openings.Points.{points-known}
use Rattle.ckr_desk_refines.proofs.DiskEntries.DiskReads.{reads-on}
use Rattle.ckr_desk.specs.Entries.{bad_entry}
use Rattle.ckr_desk.specs.Points.{ArePointsRead, EntriesCause}
use Rattle.ckr_desk.specs.Replay.{IsReadTo}
use Rattle.ckr_desk.proofs.opening.read_jobs.Goals as goal

pub returns-clause-read : goal.returns-clause-read
returns-clause-read g c = λ told.
    let d = g.D.Disk in
    let found = c.in_ok-found.found in
    subst (λ (t : RoomyTables). IsReadTo c.args.layout.now (d.content c.args.disk.now) t.desk found.place) (sym c.open.ensures.tables)
    (read-so c.args.layout.now (d.content c.args.disk.now) found.jobs.tables.desk found.place (c.in_ok-found.ensures.replayed told)
    (subst (λ (image : List ℕ). bad_entry c.args.layout.now found.jobs.tables.desk image ≡ None) c.in_ok-found.ensures.only_reads.same (c.in_ok-points.ensures.none told)))

pub returns-clause-points : goal.returns-clause-points
returns-clause-points g c =
    let d = g.D.Disk in
    let layout = c.args.layout.now in
    subst (λ (t : RoomyTables). ArePointsRead d.told layout t.desk (d.content c.args.disk.now) c.open.new.self.points) (sym c.open.ensures.tables)
    (subst (ArePointsRead d.told layout c.in_ok-found.found.jobs.tables.desk (d.content c.args.disk.now)) (sym c.in_ok-open.ensures.points)
    (subst (λ (image : List ℕ). ArePointsRead d.told layout c.in_ok-found.found.jobs.tables.desk image c.in_ok-points.points.items) c.in_ok-found.ensures.only_reads.same c.in_ok-points.ensures.points))

pub returns-clause-kept : goal.returns-clause-kept
returns-clause-kept g c =
    let d = g.D.Disk in
    let layout = c.args.layout.now in
    let jobs = c.in_ok-found.found.jobs in
    let desk = ap (λ (t : RoomyTables). t.desk) c.open.ensures.tables in
    kept-opened layout jobs c.open.new.self desk (c.open.ensures.running ∙ c.in_ok-found.ensures.running)
    (jobs-stay layout layout jobs c.open.new.self refl desk c.open.ensures.running c.in_ok-found.ensures.jobs) (c.in_ok-open.ensures.left layout c.in_ok-found.ensures.jobs) c.in_ok-found.ensures.holders
    (subst (HavePoints jobs.tables.desk) (sym c.in_ok-open.ensures.points) (points-known d.told layout jobs.tables.desk (d.content c.replay.new.disk) c.in_ok-points.points.items c.in_ok-points.ensures.points)) c.in_ok-found.ensures.numbered

pub returns-in_err-found-clause-cause : goal.returns-in_err-found-clause-cause
returns-in_err-found-clause-cause g c =
    let d = g.D.Disk in
    err-holds c.from_residual.result c.in_err-found.field-0.0 _ c.from_residual.ensures.1
    (replay-cause (Rose (d.faults c.args.disk.now) (d.faults c.replay.new.disk)) d.told c.args.layout.now (d.content c.args.disk.now) c.in_err-found.field-0.0 c.in_err-found.ensures.cause)

pub returns-in_err-points-clause-cause : goal.returns-in_err-points-clause-cause
returns-in_err-points-clause-cause g c =
    let d = g.D.Disk in
    let found = c.in_ok-found.found in
    let error = c.in_err-points.field-0.0 in
    let later = Rose (d.faults c.replay.new.disk) (d.faults c.check_entries.new.disk) in
    err-holds c.from_residual-in_err-points.result error _ c.from_residual-in_err-points.ensures.1
    (entries-cause later (Rose (d.faults c.args.disk.now) (d.faults c.check_entries.new.disk)) d.told c.args.layout.now (d.content c.args.disk.now) found.jobs.tables.desk found.place error
    (rose_before (d.faults c.args.disk.now) (d.faults c.replay.new.disk) (d.faults c.check_entries.new.disk) c.in_ok-found.ensures.faults) c.in_ok-found.ensures.replayed
    (subst (λ (image : List ℕ). EntriesCause later d.told (bad_entry c.args.layout.now found.jobs.tables.desk image) error) c.in_ok-found.ensures.only_reads.same c.in_err-points.ensures.cause))

pub returns-clause-only_reads : goal.returns-clause-only_reads
returns-clause-only_reads g c =
    let d = g.D.Disk in
    reads-on d.content d.may_leave d.moment d.left_since c.args.disk.now c.replay.new.disk c.check_entries.new.disk c.in_ok-found.ensures.only_reads c.in_ok-points.ensures.only_reads

pub returns-in_err-open-clause-only_reads : goal.returns-in_err-open-clause-only_reads
returns-in_err-open-clause-only_reads g c =
    let d = g.D.Disk in
    reads-on d.content d.may_leave d.moment d.left_since c.args.disk.now c.replay.new.disk c.check_entries.new.disk c.in_ok-found.ensures.only_reads c.in_ok-points.ensures.only_reads
