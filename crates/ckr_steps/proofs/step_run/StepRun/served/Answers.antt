use Rattle.std.proofs.Common.{sym, subst}
use Rattle.ckr_steps.specs.Units.{IsCounted}
use Rattle.ckr_steps.specs.Places.{IsStepPlace}
use Rattle.ckr_steps.proofs.Counts.{served_counted}
use Rattle.ckr_steps.proofs.Start.{served_stands}
use Rattle.ckr_steps.proofs.step_run.StepRun.served.Goals as goal

pub returns-clause-counted : goal.returns-clause-counted
returns-clause-counted c =
    subst (λ state. IsCounted c.args.self.now.parm state c.args.self.now.writes) (sym c.served.ensures)
    (served_counted c.args.self.now.parm c.args.self.now.state c.args.self.now.writes c.args.written c.requires.counted c.requires.entries)

pub returns-clause-stands : goal.returns-clause-stands
returns-clause-stands c start taken closed library stands =
    let step = c.args.self.now in
    subst (λ state. IsStepPlace start taken closed (record step { state = state }) library) (sym c.served.ensures)
    (served_stands start taken closed c.args.written step library stands)
