use Rattle.std.proofs.Common.{sym}
use Rattle.ckr_session.proofs.JobNames.{name_there, name_missing}
use Rattle.ckr_session.proofs.clerk.name_in.Goals as goal

pub returns-in-Some : goal.returns-in-Some
returns-in-Some c = name_there c.args.runs.now c.args.number c.in-Some.run'.now c.requires c.if-number-eq0.false (sym c.in-Some.ensures)

pub returns-in-None : goal.returns-in-None
returns-in-None c = name_missing c.args.runs.now c.args.number c.requires c.if-number-eq0.false (sym c.in-None.ensures)
