use Rattle.std.proofs.Common.{◌∙◌, ap, sym}
use Rattle.ckr_queue.specs.Units.{UnitTable, unit_for_of}
use Rattle.ckr_queue.proofs.MountChanges.{counted-stored, stored-unit, unit-given}
use Rattle.ckr_queue.proofs.mounts.Mounts.unit_for.Goals as goal

pub returns-clause-unit : goal.returns-clause-unit
returns-clause-unit c =
    let stored = counted-stored c.self.invariant c.self.view_is in
    c.unit_for.ensures.unit ∙ ap (λ (units : UnitTable). unit_for_of units c.args.volume) c.pin.ensures ∙ stored-unit stored c.args.volumes.now c.args.volume

pub returns-clause-none : goal.returns-clause-none
returns-clause-none c =
    let stored = counted-stored c.self.invariant c.self.view_is in
    let gives = unit-given stored.sound c.args.volumes.now c.args.volume c.requires.list c.requires.fit c.requires.among in
    let result = returns-clause-unit c in
    (λ none. gives.none.0 (sym result ∙ none), λ on. result ∙ gives.none.1 on)
