use Rattle.std.proofs.Common.{◌≡◌, length}
use Rattle.ckr_base.specs.Words.{trimmed}
use Rattle.ckr_base.proofs.words.trimmed.Given as goal

abbrev pub invariant-loop-last : goal.invariant-loop-last
invariant-loop-last l = trimmed l.rest ≡ trimmed l.fn.text

abbrev pub decreases-loop-last : goal.decreases-loop-last
decreases-loop-last l = length l.rest
