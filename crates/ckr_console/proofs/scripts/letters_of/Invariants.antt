use Rattle.std.proofs.Common.{◌≡◌, map, take}
use Rattle.ckr_console.specs.Scripts.{answer_for}
use Rattle.ckr_console.proofs.scripts.letters_of.Given as goal

abbrev pub invariant-loop-letter : goal.invariant-loop-letter
invariant-loop-letter l = l.letters ≡ map answer_for (take l.letter-index l.part)
