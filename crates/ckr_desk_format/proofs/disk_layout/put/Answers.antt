use Rattle.std.proofs.Common.{IsTrue, subst}
use Rattle.ckr_desk_format.specs.declared.cards.InstallationCard.{InstallationCard}
use Rattle.ckr_desk_format.specs.Cards.{IsWithinLimits}
use Rattle.ckr_desk_format.specs.Installation.{may_follow}
use Rattle.ckr_desk_format.proofs.Soundness.{volume_put, book_put}
use Rattle.ckr_desk_format.proofs.disk_layout.put.Goals as goal

pub returns-in-Volume-clause-sound : goal.returns-in-Volume-clause-sound
returns-in-Volume-clause-sound c =
    let limits = subst IsWithinLimits c.in-Volume.is c.requires.limits in
    volume_put c.args.said.now c.args.line c.in-Volume.serial c.in-Volume.bytes c.push-in-Volume.new.self c.push-in-Volume-2.new.self c.requires.sound limits.0 limits.1
    (subst (λ (card : InstallationCard). IsTrue (may_follow c.args.said.now card)) c.in-Volume.is c.requires.follows) c.push-in-Volume.ensures.items c.push-in-Volume-2.ensures.items

pub returns-in-Book-clause-sound : goal.returns-in-Book-clause-sound
returns-in-Book-clause-sound c =
    book_put c.args.said.now c.args.line c.in-Book.bytes c.push.new.self c.requires.sound (subst IsWithinLimits c.in-Book.is c.requires.limits)
    (subst (λ (card : InstallationCard). IsTrue (may_follow c.args.said.now card)) c.in-Book.is c.requires.follows) c.push.ensures.items
