use Rattle.std.proofs.Common.{sym}
use Rattle.ckr_model_tests.proofs.steps.rewrite.Goals as goal

pub write_record-requires-clause-stands : goal.write_record-requires-clause-stands
write_record-requires-clause-stands g c κs within = c.requires.stored.stands c.args.name.now c.in-Some.set.now (sym c.in-Some.ensures)
