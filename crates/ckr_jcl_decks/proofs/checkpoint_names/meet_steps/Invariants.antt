use Rattle.std.proofs.Common.{◌≡◌, ◌||◌, Option, take}
use Rattle.ckr_jcl_operands.specs.declared.dd_values.DsnText.{DsnText}
use Rattle.ckr_jcl_decks.specs.DeckFaults.{is_checkpointed_on, any_dd}
use Rattle.ckr_jcl_decks.specs.MetNames.{dsn_met}
use Rattle.ckr_jcl_decks.proofs.checkpoint_names.meet_steps.Given as goal

abbrev pub invariant-loop-step : goal.invariant-loop-step
invariant-loop-step l = (dsn : Option DsnText) → dsn_met l.permanent l.passing dsn ≡ (any_dd (is_checkpointed_on dsn) (take l.step-index l.steps) || dsn_met l.fn.permanent l.fn.passing dsn)
