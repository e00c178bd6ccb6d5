use Rattle.std.proofs.Common.{arith}
use Rattle.std.proofs.lemmas.Grind.{common_steps}
use Rattle.ckr_jcl_decks.specs.DeckFaults.{is_checkpointed_on}
use Rattle.ckr_jcl_decks.proofs.CheckpointDds.{steps_met}
use Rattle.ckr_jcl_decks.proofs.checkpoint_names.meet_steps.Goals as goal

pub loop-step-preserved : goal.loop-step-preserved
loop-step-preserved c = λ dsn. steps_met (is_checkpointed_on dsn) c.args.steps.now c.loop-step.step-index c.step-item.result _ _ _ c.loop-step-test.true c.step-item.is (grind (arith, common_steps, c.in_ok-meet_dds.ensures)) (c.loop-step.invariant dsn)
