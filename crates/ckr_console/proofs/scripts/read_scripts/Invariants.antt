use Rattle.std.proofs.Common.{◌≡◌, map}
use Rattle.ckr_console.specs.Scripts.{script_for}
use Rattle.ckr_console.proofs.scripts.read_scripts.Given as goal

abbrev pub invariant-loop-part : goal.invariant-loop-part
invariant-loop-part l = l.scripts ≡ map (λ part. script_for part.now) l.yielded
