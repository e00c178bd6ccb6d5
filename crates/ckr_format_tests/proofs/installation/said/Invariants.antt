use Rattle.ckr_desk_format.specs.Installation.{IsSoundLayout}
use Rattle.ckr_format_tests.proofs.installation.said.Given as goal

abbrev pub invariant-loop-line : goal.invariant-loop-line
invariant-loop-line l = IsSoundLayout l.reader.said
