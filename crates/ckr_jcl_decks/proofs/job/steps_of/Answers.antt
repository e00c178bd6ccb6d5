use Rattle.std.proofs.Common.{take, [], ◌∷◌, arith}
use Rattle.std.proofs.lemmas.Grind.{common_steps}
use Rattle.std.proofs.lemmas.List.Elements.{filter_map-append}
use Rattle.ckr_jcl_decks.specs.Deck.{step_of}
use Rattle.ckr_jcl_decks.proofs.job.steps_of.Goals as goal

pub loop-step-preserved : goal.loop-step-preserved
loop-step-preserved c = grind (arith, common_steps, filter_map-append step_of (take c.loop-step.step-index c.args.steps.now) (c.step-item.result ∷ []))
