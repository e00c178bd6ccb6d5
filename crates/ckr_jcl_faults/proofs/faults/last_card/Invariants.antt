use Rattle.std.proofs.Common.{◌≡◌, drop}
use Rattle.ckr_jcl_faults.specs.Faults.{last_card, last_number}
use Rattle.ckr_jcl_faults.proofs.faults.last_card.Given as goal

abbrev pub invariant-loop-card : goal.invariant-loop-card
invariant-loop-card l = last_card l.statement ≡ last_number l.number (drop l.card-index l.statement.more)
