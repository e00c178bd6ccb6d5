use Rattle.std.proofs.Common.{◌≡◌, sym, subst, true, arith, Some}
use Rattle.ckr_desk_refines.proofs.Memory.AcceptedDecks.{accepted-submits}
use Rattle.ckr_desk_refines.specs.Memory.Invariant.{IsAnyAccepted}
use Rattle.ckr_desk_refines.specs.Memory.OwnSets.{CommitsItsOwn}
use Rattle.ckr_desk_refines.specs.Memory.OwnSteps.{LeavesLeft}
use Rattle.ckr_events.specs.declared.event.Event.TheVariants.{Submitted}
use Rattle.ckr_desk_refines.specs.Tables.Invariant.{MaySubmit}
use Rattle.ckr_desk_store.specs.State.{IsSound}
use Rattle.ckr_desk_turn.specs.Cards.{kept_of_stored}
use Rattle.ckr_desk.proofs.Calls.CardCounts.{accepted-deck, accepted-row, few-accepted}
use Rattle.ckr_desk.proofs.Calls.NextEvents.{deck-follows}
use Rattle.ckr_desk.proofs.Calls.Stops.{nothing-left}
use Rattle.ckr_desk.specs.Calls.{may_follow}
use Rattle.ckr_desk.proofs.desk.Desk.enter_deck.Goals as goal

pub tell-requires-clause-small : goal.tell-requires-clause-small
tell-requires-clause-small g c κs within =
    let few = few-accepted c.args.cards.now c.args.job c.requires.accepted in
    let size = c.in_ok-event.ensures.spelled.size in
    omega (arith, few, size)

pub tell-requires-clause-follows : goal.tell-requires-clause-follows
tell-requires-clause-follows g c κs within =
    subst (λ event. may_follow event (Some c.args.job) c.args.self.now ≡ true) (sym c.in_ok-event.ensures.event)
    (deck-follows c.args.self.now.store.layout c.args.self.now.jobs.tables.desk c.args.cards.now c.args.number c.args.job c.requires.some c.requires.next)

pub tell-requires-clause-deck : goal.tell-requires-clause-deck
tell-requires-clause-deck g c κs within =
    subst (λ event. MaySubmit event (Some c.args.job)) (sym c.in_ok-event.ensures.event)
    (accepted-submits c.args.cards.now c.args.number c.args.job (accepted-deck c.args.cards.now c.args.job c.requires.accepted) c.requires.digits)

pub tell-requires-clause-accepted : goal.tell-requires-clause-accepted
tell-requires-clause-accepted g c κs within =
    subst (λ event. IsAnyAccepted event (Some c.args.job)) (sym c.in_ok-event.ensures.event) (accepted-row c.args.cards.now c.args.number c.args.job c.requires.accepted)

pub returns-in_err-event-clause-left : goal.returns-in_err-event-clause-left
returns-in_err-event-clause-left g c is_open =
    let d = g.D.Disk in
    let now = c.args.self.now in
    let laws = g.met.D.Disk g.world.𝓛 g.world.𝓜 g.world.𝓡 ((λ s x. x), (λ x. x), (λ x. x), λ x. x) in
    nothing-left d.told d.content d.may_leave d.moment d.left_since d.size (Submitted c.args.number (kept_of_stored c.args.cards.now)) (Some c.args.job) now
    (subst (λ s. IsSound d.content d.may_leave d.size s.store) c.self.view_is c.self.invariant.store) is_open (laws.only_now now.store.disk)

pub tell-requires-clause-commits : goal.tell-requires-clause-commits
tell-requires-clause-commits g c κs within =
    subst (λ event. CommitsItsOwn event c.args.self.now.jobs.tables.desk c.args.self.now.jobs.running) (sym c.in_ok-event.ensures.event) tt

pub tell-requires-clause-leaves : goal.tell-requires-clause-leaves
tell-requires-clause-leaves g c κs within = subst (λ event. LeavesLeft event c.args.self.now.jobs.failed) (sym c.in_ok-event.ensures.event) tt
