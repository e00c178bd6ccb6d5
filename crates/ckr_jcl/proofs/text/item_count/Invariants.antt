use Rattle.std.proofs.Common.{◌≡◌, ◌≤◌, ◌+◌, length}
use Rattle.ckr_cards.specs.Field.{parts_of}
use Rattle.ckr_jcl.proofs.text.item_count.Given as goal

abbrev pub invariant-loop-rest : goal.invariant-loop-rest
invariant-loop-rest l = record { count : l.count + length (parts_of l.rest) ≡ length (parts_of l.list) + 1; bound : l.count + length l.rest ≤ length l.list + 1 }

abbrev pub decreases-loop-rest : goal.decreases-loop-rest
decreases-loop-rest l = length l.rest
