use Rattle.std.proofs.Common.{◌≡◌, length}
use Rattle.std.specs.List.{list_all}
use Rattle.ckr_base.specs.Grammar.{is_serial}
use Rattle.ckr_cards.specs.Field.{parts_of}
use Rattle.ckr_jcl_operands.proofs.dd_values.are_serials.Given as goal

abbrev pub invariant-loop-rest : goal.invariant-loop-rest
invariant-loop-rest l = list_all is_serial (parts_of l.rest) ≡ list_all is_serial (parts_of l.list)

abbrev pub decreases-loop-rest : goal.decreases-loop-rest
decreases-loop-rest l = length l.rest
