use Rattle.std.proofs.Common.{length}
use Rattle.ckr_library.specs.Catalog.{records_of}
use Rattle.ckr_steps.proofs.EntryRecords.{bytes-back, records-keeping}
use Rattle.ckr_steps.proofs.step_run.StepRun.checkpoint.Goals as goal

pub returns-in_err-put_entry-clause-keeps : goal.returns-in_err-put_entry-clause-keeps
returns-in_err-put_entry-clause-keeps g c library name stored was =
    let d = g.D.Disk in
    records-keeping c.args.layout.now name c.args.set.now library (records_of (length c.args.entry.now)) stored was d.told d.content d.may_leave d.moment d.left_since c.args.disk.now c.put_entry.new.disk c.put_entry.ensures.changes

pub returns-clause-reads_back : goal.returns-clause-reads_back
returns-clause-reads_back g c told =
    bytes-back (g.D.Disk.content c.put_entry.new.disk) c.args.layout.now c.args.set.now c.args.set.now.length c.args.entry.now (c.in_ok-put_entry.ensures.written told)

pub returns-clause-keeps : goal.returns-clause-keeps
returns-clause-keeps g c library name stored was =
    let d = g.D.Disk in
    records-keeping c.args.layout.now name c.args.set.now library (records_of (length c.args.entry.now)) stored was d.told d.content d.may_leave d.moment d.left_since c.args.disk.now c.put_entry.new.disk c.put_entry.ensures.changes
