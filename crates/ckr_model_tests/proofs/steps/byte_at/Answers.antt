use Rattle.std.proofs.Common.{sym}
use Rattle.ckr_model_tests.proofs.steps.byte_at.Goals as goal

pub read_record-requires-clause-stands : goal.read_record-requires-clause-stands
read_record-requires-clause-stands g c κs within = c.requires.stored.stands c.name-name.result c.in-Some.set.now (sym c.in-Some.ensures)
