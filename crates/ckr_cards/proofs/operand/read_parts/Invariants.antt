use Rattle.std.proofs.Common.{◌≡◌, ◌&&◌, ◌++◌, length}
use Rattle.std.specs.Prelude.{filter_map}
use Rattle.std.specs.List.{list_all}
use Rattle.ckr_cards.specs.Field.{parts_of_field}
use Rattle.ckr_cards.specs.Statement.{operand_of, is_operand}
use Rattle.ckr_cards.proofs.operand.read_parts.Given as goal

abbrev pub invariant-loop-read : goal.invariant-loop-read
invariant-loop-read l = (filter_map operand_of (parts_of_field l.field) ≡ l.read.operands ++ filter_map operand_of (parts_of_field l.rest)) × (list_all is_operand (parts_of_field l.field) ≡ (l.read.tidy && list_all is_operand (parts_of_field l.rest)))

abbrev pub decreases-loop-read : goal.decreases-loop-read
decreases-loop-read l = length l.rest
