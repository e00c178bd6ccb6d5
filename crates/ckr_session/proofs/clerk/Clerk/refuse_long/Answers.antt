use Rattle.std.proofs.Common.{◌≡◌, ◌∷◌, ◌++◌, [], ℕ, List, Option, None, Err, true, refl, ap, sym, ◌∙◌, append-nil}
use Rattle.ckr_open_deck.specs.Decks.Deck.{stored_deck}
use Rattle.ckr_open_deck.specs.Decks.Fault.{Fault}
use Rattle.ckr_cards.specs.Session.Handed.{Deck}
use Rattle.ckr_desk.specs.Model.OpenImages.{event_records}
use Rattle.ckr_desk.specs.Model.Restart.{Decked}
use Rattle.ckr_desk.specs.Model.Rows.{TablesModel}
use Rattle.ckr_desk.specs.Model.Submissions.{submission_by, submission_of}
use Rattle.ckr_desk.specs.Model.Submitted.TheVariants.{Refused}
use Rattle.ckr_desk.specs.Requests.{behind_call, call_fits, event_in, spelled}
use Rattle.ckr_desk.specs.Soundness.{state_of}
use Rattle.ckr_desk.specs.State.{RoomyDesk, disk_of, layout_of, machine_room_of}
use Rattle.ckr_desk.specs.Submit.{answer_to, call_by, submit_answer, submit_call}
use Rattle.ckr_session.specs.Service.{HaltsSo, seen, staffed_of}
use Rattle.ckr_session.specs.Staff.{tables_at}
use Rattle.ckr_session.proofs.Calls.Halts.{memory_here}
use Rattle.ckr_session.proofs.Calls.Stops.{goes_on_to, goes_still, stopped_here}
use Rattle.ckr_session.proofs.Service.Answers.{comes_none, deck_refused}
use Rattle.ckr_session.proofs.Service.Staff.{staffed-behind}
use Rattle.ckr_session.proofs.clerk.Clerk.refuse_long.Goals as goal

-- a deck that is refused brings no event about
no_call : (tables : TablesModel) (cards : List ℕ) (fault : Fault) → stored_deck cards ≡ Err fault → submit_call tables cards ≡ None
unfolding submit_call submission_of
no_call tables cards fault is = ap (λ deck. call_by tables cards (submission_by deck)) is

-- and its answer tells the rule and the card
its_answer : (tables : TablesModel) (cards : List ℕ) (fault : Fault) → stored_deck cards ≡ Err fault → Refused fault.number fault.card ≡ submit_answer tables cards
unfolding submit_answer submission_of
its_answer tables cards fault is = sym (ap (λ deck. answer_to tables (submission_by deck)) is)

stays : (state : RoomyDesk) (call : Option Decked) → call ≡ None → state ≡ behind_call state call
unfolding behind_call
stays state call none = sym (ap (behind_call state) none)

fits-none : (state : RoomyDesk) (call : Option Decked) → call ≡ None → call_fits state call ≡ true
unfolding call_fits
fits-none state call none = ap (call_fits state) none

pub returns-in-Ok-clause-serves : goal.returns-in-Ok-clause-serves
returns-in-Ok-clause-serves g c =
    let d = g.D.Disk in
    let old = c.args.self.now in
    let new = c.refuse_deck.new.self in
    let cards = c.args.deck.now in
    let fault = c.in-Ok.fault in
    let s = staffed_of d.content old in
    let e = c.refuse_deck.ensures in
    let none = no_call (tables_at s) cards fault c.in-Ok.ensures in
    deck_refused (seen d.content old) (seen d.content new) cards (Refused fault.number fault.card) (tables_at s) (tables_at (staffed_of d.content new))
    (staffed-behind s (staffed_of d.content new) (submit_call (tables_at s) cards) (ap (state_of d.content) e.desk ∙ stays s.attended.state _ none) (ap machine_room_of e.desk) e.roster)
    refl refl (its_answer (tables_at s) cards fault c.in-Ok.ensures)
    (ap (λ (w : _). event_records (layout_of w) (d.content (disk_of w))) e.desk ∙ sym (append-nil _)
    ∙ ap (λ (call : Option Decked). event_records (layout_of old.desk) (d.content (disk_of old.desk)) ++ spelled (event_in call)) (sym none))
    c.refuse_deck.result fault.number fault.card _ _ (fits-none s.attended.state _ none) refl e.refused e.tally e.text

pub returns-in-Ok-clause-goes : goal.returns-in-Ok-clause-goes
returns-in-Ok-clause-goes g c holds =
    let d = g.D.Disk in
    let laws = g.met.D.Disk g.world.𝓛 g.world.𝓜 g.world.𝓡 ((λ s x. x), (λ x. x), (λ x. x), λ x. x) in
    let old = c.args.self.now.desk in
    goes_on_to d.content d.moment d.left_since d.size c.refuse_deck.result old old _ c.refuse_deck.ensures.desk (goes_still d.content d.moment d.left_since d.size d.told d.may_leave old holds (laws.only_now (disk_of old)) (laws.sized (disk_of old) (d.moment (disk_of old))))

pub returns-in-Ok-clause-halt : goal.returns-in-Ok-clause-halt
returns-in-Ok-clause-halt g c holds =
    let d = g.D.Disk in
    let laws = g.met.D.Disk g.world.𝓛 g.world.𝓜 g.world.𝓡 ((λ s x. x), (λ x. x), (λ x. x), λ x. x) in
    let old = c.args.self.now.desk in
    let request = Deck c.args.deck.now in
    memory_here d.content d.moment d.left_since d.size c.refuse_deck.result old old _ [] (λ halt. HaltsSo halt (staffed_of d.content c.args.self.now) (request ∷ []) c.args.out.now c.refuse_deck.new.out) c.refuse_deck.ensures.desk
    (goes_still d.content d.moment d.left_since d.size d.told d.may_leave old holds (laws.only_now (disk_of old)) (laws.sized (disk_of old) (d.moment (disk_of old)))) (sym (append-nil _)) (comes_none _) c.refuse_deck.ensures.halt

pub returns-in-Err-clause-halt : goal.returns-in-Err-clause-halt
returns-in-Err-clause-halt g c holds =
    let d = g.D.Disk in
    let laws = g.met.D.Disk g.world.𝓛 g.world.𝓜 g.world.𝓡 ((λ s x. x), (λ x. x), (λ x. x), λ x. x) in
    let old = c.args.self.now.desk in
    stopped_here d.content d.moment d.left_since d.size old old (goes_still d.content d.moment d.left_since d.size d.told d.may_leave old holds (laws.only_now (disk_of old)) (laws.sized (disk_of old) (d.moment (disk_of old)))) [] _ (sym (append-nil _)) (comes_none _)
