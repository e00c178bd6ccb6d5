use Rattle.std.proofs.Common.{◌≡◌, ℕ, List, [], Option, take, drop}
use Rattle.std.specs.List.{list_any}
use Rattle.ckr_jcl_operands.specs.declared.dd_values.DsnText.{DsnText}
use Rattle.ckr_jcl_decks.specs.DeckFaults.{has_dd_name, has_dsn, repeated_dd}
use Rattle.ckr_jcl_decks.specs.MetNames.{was_met, dsn_met}
use Rattle.ckr_jcl_decks.proofs.repeated_names.repeated_of_many.Given as goal

abbrev pub invariant-loop-dd : goal.invariant-loop-dd
invariant-loop-dd l = record {
  names : (name : List ℕ) → was_met l.names name ≡ list_any (has_dd_name name) (take l.dd-index l.dds);
  dsns : (dsn : Option DsnText) → dsn_met l.permanent l.passing dsn ≡ list_any (has_dsn dsn) (take l.dd-index l.dds);
  rest : repeated_dd [] l.dds ≡ repeated_dd (take l.dd-index l.dds) (drop l.dd-index l.dds);
}
