use Rattle.std.proofs.Common.{◌∙◌, ap, sym}
use Rattle.std.specs.Option.{is_some}
use Rattle.ckr_queue.proofs.MountChanges.{counted-stored, held-stored, is_some-stored}
use Rattle.ckr_queue.proofs.mounts.Mounts.holds.Goals as goal

pub returns : goal.returns
returns c =
    let stored = counted-stored c.self.invariant c.self.view_is in
    let one = c.index-self-initiator.result in
    c.is_some.ensures ∙ sym (ap is_some c.index-self-initiator.is)
    ∙ sym (ap is_some (held-stored stored c.args.initiator c.requires.first c.requires.last one one c.index-self-initiator.is) ∙ is_some-stored one)
