use Rattle.ckr_volumes.specs.Layouts.{disk_needed}
use Rattle.ckr_journal.proofs.FreshDisks.{needs_least}
use Rattle.ckr_journal.proofs.fresh_disk.header_of.Goals as goal

pub returns-clause-room : goal.returns-clause-room
returns-clause-room c = (needs_least c.args.layout.now (disk_needed c.args.layout.now) c.requires).1
