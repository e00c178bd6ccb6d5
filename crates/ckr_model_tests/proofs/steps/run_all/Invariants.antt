use Rattle.std.proofs.Common.{◌≡◌}
use Rattle.ckr_steps.specs.Inputs.{AreStored}
use Rattle.ckr_model_tests.proofs.steps.run_all.Given as goal

abbrev pub invariant-loop-case : goal.invariant-loop-case
invariant-loop-case g l =
    let d = g.D.Disk in
    record {
      stored : AreStored l.layout l.library;
      size : d.size l.disk ≡ d.size l.fn.disk;
    }
