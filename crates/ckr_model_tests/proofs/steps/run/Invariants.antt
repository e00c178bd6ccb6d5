use Rattle.std.proofs.Common.{◌≡◌}
use Rattle.ckr_steps.specs.Inputs.{AreStored, AreThere}
use Rattle.ckr_steps.specs.StepUnit.{AreCounted}
use Rattle.ckr_model_tests.proofs.steps.run.Given as goal

abbrev pub invariant-loop : goal.invariant-loop
invariant-loop g l =
    let d = g.D.Disk in
    record {
      counted : AreCounted l.step;
      stored : AreStored l.layout l.library;
      there : AreThere l.step.files l.library;
      size : d.size l.disk ≡ d.size l.fn.disk;
    }
