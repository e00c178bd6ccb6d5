use Rattle.std.proofs.Common.{◌≡◌, take}
use Rattle.ckr_cards.specs.Statement.{text_of}
use Rattle.ckr_cards.proofs.field.text_of.Given as goal

abbrev pub invariant-loop-spot : goal.invariant-loop-spot
invariant-loop-spot l = l.text.items ≡ text_of (take l.spot-index l.part)
