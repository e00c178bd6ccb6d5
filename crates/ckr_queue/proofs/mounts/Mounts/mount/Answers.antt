use Rattle.std.proofs.Common.{◌∙◌, ap, subst, sym}
use Rattle.ckr_queue.specs.Mounts.{MountTable, units_with}
use Rattle.ckr_queue.specs.Units.{IsMountedBeside, UnitTable, unit_for_of}
use Rattle.ckr_queue.proofs.MountChanges.{counted-stored, stored-counted, stored-mount, stored-sound, stored-unit, unit-given}
use Rattle.ckr_queue.proofs.mounts.Mounts.mount.Goals as goal

pub mount-requires : goal.mount-requires
mount-requires c =
    let stored = counted-stored c.self.invariant c.self.view_is in
    ap (λ (units : UnitTable). unit_for_of units c.args.volume) c.pin.ensures ∙ stored-unit stored c.args.volumes.now c.args.volume ∙ c.requires.unit

pub invariant_of-self : goal.invariant_of-self
invariant_of-self c =
    let stored = counted-stored c.self.invariant c.self.view_is in
    stored-counted (stored-mount stored c.args.volumes.now c.args.volume c.args.unit c.pin.new.self c.mount.new.self c.pin.ensures c.mount.ensures c.requires.unit)

pub returns-clause-beside : goal.returns-clause-beside
returns-clause-beside c =
    let volumes = c.args.volumes.now in
    let stored = counted-stored c.self.invariant c.self.view_is in
    let later = stored-mount stored volumes c.args.volume c.args.unit c.pin.new.self c.mount.new.self c.pin.ensures c.mount.ensures c.requires.unit in
    let gives = unit-given stored.sound volumes c.args.volume c.requires.list c.requires.fit c.requires.among in
    subst (λ (t : MountTable). IsMountedBeside volumes c.args.volume (units_with volumes c.args.self.now) (units_with volumes t)) (sym later.seen) (gives.mounts c.args.unit c.requires.unit)

pub returns-clause-sound : goal.returns-clause-sound
returns-clause-sound c =
    let stored = counted-stored c.self.invariant c.self.view_is in
    stored-sound (stored-mount stored c.args.volumes.now c.args.volume c.args.unit c.pin.new.self c.mount.new.self c.pin.ensures c.mount.ensures c.requires.unit)
