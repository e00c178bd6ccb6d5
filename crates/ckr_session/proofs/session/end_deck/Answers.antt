use Rattle.std.proofs.Common.{◌≡◌, ◌==◌, ℕ, false, List, [], ◌∷◌, length, refl, subst, sym, arith}
use Rattle.std.proofs.lemmas.Bool.{false≢true}
use Rattle.std.proofs.lemmas.Grind.{common_steps}
use Rattle.ckr_cards.specs.Session.{Handed, handed_deck}
use Rattle.ckr_cards.specs.Session.Handed.{Deck}
use Rattle.ckr_desk.specs.State.{disk_of}
use Rattle.ckr_session.specs.Service.{Serves, View}
use Rattle.ckr_session.proofs.Calls.Stops.{goes_still}
use Rattle.ckr_session.proofs.session.end_deck.Goals as goal

-- an open deck is handed over
handed_some : (cards : List ℕ) → (length cards == 0) ≡ false → Deck cards ∷ [] ≡ handed_deck cards
handed_some [] some = absurd (false≢true (sym some))
handed_some (byte ∷ rest) some = refl

deck_served : {t u : List ℕ} (a b : View) (cards : List ℕ) → (length cards == 0) ≡ false → Serves a b (Deck cards ∷ []) t u → Serves a b (handed_deck cards) t u
deck_served {t} {u} a b cards some s = subst (λ (requests : List Handed). Serves a b requests t u) (handed_some cards some) s

pub returns-then-is_empty-clause-goes : goal.returns-then-is_empty-clause-goes
returns-then-is_empty-clause-goes g c holds =
    let d = g.D.Disk in
    let laws = g.met.D.Disk g.world.𝓛 g.world.𝓜 g.world.𝓡 ((λ s x. x), (λ x. x), (λ x. x), λ x. x) in
    let desk = c.args.clerk.now.desk in
    goes_still d.content d.moment d.left_since d.size d.told d.may_leave desk holds (laws.only_now (disk_of desk)) (laws.sized (disk_of desk) (d.moment (disk_of desk)))

pub returns-clause-serves : goal.returns-clause-serves
returns-clause-serves g c holds =
    let cards = c.args.deck.now in
    let some : (length cards == 0) ≡ false = grind (arith, common_steps, c.is_empty.ensures, c.if-is_empty.false) in
    deck_served _ _ cards some (c.in_ok-end_deck.ensures.serves holds)
