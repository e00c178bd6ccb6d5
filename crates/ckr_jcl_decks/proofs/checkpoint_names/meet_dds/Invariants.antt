use Rattle.std.proofs.Common.{◌≡◌, ◌||◌, Option, take}
use Rattle.std.specs.List.{list_any}
use Rattle.ckr_jcl_operands.specs.declared.dd_values.DsnText.{DsnText}
use Rattle.ckr_jcl_decks.specs.DeckFaults.{is_checkpointed_on}
use Rattle.ckr_jcl_decks.specs.MetNames.{dsn_met}
use Rattle.ckr_jcl_decks.proofs.checkpoint_names.meet_dds.Given as goal

abbrev pub invariant-loop-dd : goal.invariant-loop-dd
invariant-loop-dd l = (dsn : Option DsnText) → dsn_met l.permanent l.passing dsn ≡ (list_any (is_checkpointed_on dsn) (take l.dd-index l.dds) || dsn_met l.fn.permanent l.fn.passing dsn)
