-- What the clerk answers to one request.
use Rattle.std.proofs.Common.{◌≡◌, ℕ, Bool, true, false, cond, ◌||◌, ◌&&◌, List, [], ◌∷◌, ◌++◌, length, Result, Ok, Err, OnOk, refl, sym, ap, subst, ◌∙◌, append-nil}
use Rattle.std.specs.List.{flat_map}
use Rattle.ckr_base.proofs.Bools.{or-false, or-true}
use Rattle.ckr_desk.specs.Model.Rows.{TablesModel}
use Rattle.ckr_desk.specs.Model.Turn.{Turn}
use Rattle.ckr_cards.specs.Session.{Handed}
use Rattle.ckr_cards.specs.Session.Handed.{Deck, Order as Command}
use Rattle.ckr_desk.specs.Requests.{call_fits, event_in, spelled}
use Rattle.ckr_desk.specs.Soundness.{IsTrusted, state_of}
use Rattle.ckr_desk.specs.State.{DeskView, tables_in_memory}
use Rattle.ckr_desk.specs.Submit.{submit_answer}
use Rattle.ckr_desk.specs.Model.Submitted.{Submitted}
use Rattle.ckr_desk.specs.Model.Submitted.TheVariants.{Job, Refused}
use Rattle.ckr_session.specs.declared.orders.Order.{Order}
use Rattle.ckr_session.specs.declared.orders.Order.TheVariants.{Turns, ListOf, Change}
use Rattle.ckr_session.specs.declared.orders.JobChange.{JobChange}
use Rattle.ckr_session.specs.declared.stop.Halt.{Halt}
use Rattle.ckr_session.specs.declared.stop.Halt.TheVariants as Halts
use Rattle.ckr_session.specs.Calls.{Answer, Accepted, DeckRefused, BrokenOff, answer, fits, after_order, broken_off, replies_of, replies_to, initiator_of, name_in, answer_to_deck, behind_deck, deck_answer, deck_fits, lines_of, order_answer, order_fits, order_in, call_for, is_refusal}
use Rattle.ckr_session.specs.Events.{deck_event, change_event, order_events, request_events, events_told, order_events_before, order_event_at, events_before, event_at}
use Rattle.ckr_session.specs.Tallies.{with_answer}
use Rattle.ckr_session.specs.Texts.{answer_text}
use Rattle.ckr_session.specs.Turns.{TurnsHalt, turns_text}
use Rattle.ckr_session.specs.Service.{View, ComesTo, Serves, HaltsSo, ListHalt, ChangeHalt, text_to}
use Rattle.ckr_session.specs.Staff.{StaffedDesk, layout_at, tables_at}
use Rattle.ckr_session.proofs.Service.Events.{comes_all, events_told-one}
use Rattle.ckr_session.proofs.Service.Order.{serves_one, text_to-one}

-- the tables in memory are those behind the events
pub tables_in : {D : Type 0} (told : Type 0) (content : D → List ℕ) (may_leave : D → List ℕ → Type 0) (desk : DeskView D) → IsTrusted told content may_leave desk
    → tables_in_memory desk ≡ (state_of content desk).desk.office.tables
tables_in told content may_leave desk trusted = trusted.stands.tables

-- ---- a deck

answer_is : (s : StaffedDesk) (cards : List ℕ) (given : Submitted) (tables : TablesModel) → given ≡ submit_answer (tables_at s) cards → tables ≡ tables_at (behind_deck s cards) → answer_to_deck given (lines_of tables) ≡ deck_answer s cards
unfolding deck_answer
answer_is s cards given tables is tables_are = ap (λ g. answer_to_deck g (lines_of tables)) is ∙ ap (λ (t : TablesModel). answer_to_deck (submit_answer (tables_at s) cards) (lines_of t)) tables_are

-- where the tables in memory are these, those of the state
module _ (a b : View) (cards : List ℕ) (given : Submitted) (old new : TablesModel) (state : b.state ≡ behind_deck a.state cards) (is_old : old ≡ tables_at a.state) (is_new : new ≡ tables_at b.state)
    (answered : given ≡ submit_answer old cards) (came : b.events ≡ a.events ++ deck_event a.state cards) where
  -- the book had room for its event
  came-one : deck_fits a.state cards ≡ true → b.events ≡ a.events ++ request_events a.state (Deck cards)
  came-one fit = came ∙ ap (λ (f : Bool). a.events ++ cond f (deck_event a.state cards) []) (sym fit)

  same_answer : answer_to_deck given (lines_of new) ≡ deck_answer a.state cards
  same_answer =
      answer_is a.state cards given new (answered ∙ ap (λ (t : TablesModel). submit_answer t cards) is_old)
      (is_new ∙ ap tables_at state)

  -- the job is accepted
  pub deck_accepted : {E : Type 0} (r : Result (Unit {0}) E) (number : ℕ) (t u : List ℕ) → deck_fits a.state cards ≡ true
      → given ≡ Job number → b.refused ≡ a.refused → b.tally ≡ a.tally
      → OnOk r (u ≡ t ++ answer_text (Accepted number (name_in number (lines_of new)))) → OnOk r (Serves a b (Deck cards ∷ []) t u)
  deck_accepted r number t u fit is refused counted text =
      let same : Accepted number (name_in number (lines_of new)) ≡ deck_answer a.state cards = ap (λ g. answer_to_deck g (lines_of new)) (sym is) ∙ same_answer in
      serves_one r a b (Deck cards) t u fit state
      (refused ∙ sym (or-false a.refused) ∙ ap (λ x. a.refused || is_refusal x) same) (counted ∙ ap (with_answer a.tally) same) (came-one fit)
      (subst (λ (x : Answer). OnOk r (u ≡ t ++ answer_text x)) same text)

  pub deck_refused : {E : Type 0} (r : Result (Unit {0}) E) (number card : ℕ) (t u : List ℕ) → deck_fits a.state cards ≡ true
      → given ≡ Refused number card → b.refused ≡ true → b.tally ≡ a.tally
      → OnOk r (u ≡ t ++ answer_text (DeckRefused number card)) → OnOk r (Serves a b (Deck cards ∷ []) t u)
  deck_refused r number card t u fit is refused counted text =
      let same : DeckRefused number card ≡ deck_answer a.state cards = ap (λ g. answer_to_deck g (lines_of new)) (sym is) ∙ same_answer in
      serves_one r a b (Deck cards) t u fit state
      (refused ∙ sym (or-true a.refused) ∙ ap (λ x. a.refused || is_refusal x) same) (counted ∙ ap (with_answer a.tally) same) (came-one fit)
      (subst (λ (x : Answer). OnOk r (u ≡ t ++ answer_text x)) same text)

-- ---- a request that isn't served

-- the book has no room for it, and these of its replies were given
pub request_full : (s : StaffedDesk) (request : Handed) (t u : List ℕ) (came kept : List (List ℕ)) → fits s request ≡ false → u ≡ t ++ answer_text (broken_off s request (replies_of s request))
    → came ≡ request_events s request → kept ≡ came → HaltsSo Halts.Book s (request ∷ []) t u came kept
request_full s request t u came kept full text came_is kept_is =
    (ap (λ f. f && true) full, text ∙ ap (λ l. t ++ l) (sym (text_to-one s request full)), came_is ∙ sym (events_told-one s request), kept_is)

pub deck_full : (s : StaffedDesk) (cards t : List ℕ) → deck_fits s cards ≡ false → HaltsSo Halts.Book s (Deck cards ∷ []) t t [] []
deck_full s cards t full = request_full s (Deck cards) t t [] [] full (sym (append-nil t)) (sym (ap (λ (f : Bool). cond f (deck_event s cards) []) full)) refl

-- the disk failed, and none of its replies was given
pub broken_at_once : (s : StaffedDesk) (request : Handed) (t : List ℕ) (came kept : List (List ℕ)) → answer_text (broken_off s request []) ≡ [] → came ≡ events_before s request 0 ++ event_at s request 0
    → kept ≡ events_before s request 0 → HaltsSo Halts.Disk s (request ∷ []) t t came kept
broken_at_once s request t came kept nothing came_is kept_is = (
  [],
  sym (append-nil t),
  record {
    served = [];
    broken = request;
    more = [];
    split = refl;
    fits = refl;
    replies = [];
    later = replies_of s request;
    given = refl;
    told = sym nothing;
    came_is = came_is;
    kept_is = kept_is;
  },
)

-- there was no memory, behind events that came or before any
pub comes_one : (s : StaffedDesk) (request : Handed) (came kept : List (List ℕ)) → ComesTo (request_events s request) came kept → ComesTo (events_told s (request ∷ [])) came kept
comes_one s request came kept c = subst (λ (events : List (List ℕ)). ComesTo events came kept) (sym (events_told-one s request)) c

pub comes_none : (events : List (List ℕ)) → ComesTo events [] []
comes_none events = comes_all events events [] refl

pub comes_with : (fits : Bool) (came : List (List ℕ)) → fits ≡ true → ComesTo (cond fits came []) came came
comes_with fits came fit = comes_all (cond fits came []) [] came (ap (λ (f : Bool). cond f came []) fit ∙ sym (append-nil came))

-- ---- a command: the order is what the line asks for

module _ (s : StaffedDesk) (number : ℕ) (line : List ℕ) (order : Order) (reads : order ≡ order_in s line) where
  turns_not_served : (halt : Halt) (turn : Turn) (n : ℕ) (t u : List ℕ) → order ≡ Turns turn n → (came kept : List (List ℕ))
      → TurnsHalt (layout_at s) turn halt n s.attended t u came kept → HaltsSo halt s (Command number line ∷ []) t u came kept
  turns_not_served Halts.Memory turn n t u is came kept why =
      let same : Turns turn n ≡ order_in s line = sym is ∙ reads in
      comes_one s (Command number line) came kept (subst (λ (events : List (List ℕ)). ComesTo events came kept) (ap (order_events s) same) why)
  turns_not_served Halts.Book turn n t u is came kept why =
      let same : Turns turn n ≡ order_in s line = sym is ∙ reads in
      request_full s (Command number line) t u came kept (sym (ap (order_fits s) same) ∙ why.0)
      (why.1 ∙ ap (λ o. t ++ answer_text (BrokenOff (layout_at s) (initiator_of o) (replies_to s o))) same)
      (why.2 ∙ ap (order_events s) same) why.3
  turns_not_served Halts.Disk turn n t u is came kept why =
      let same : Turns turn n ≡ order_in s line = sym is ∙ reads in (
        answer_text (BrokenOff (layout_at s) turn.initiator why.replies),
        why.told,
        record {
          served = [];
          broken = Command number line;
          more = [];
          split = refl;
          fits = refl;
          replies = why.replies;
          later = why.later;
          given = sym (ap (replies_to s) same) ∙ why.given;
          told = ap (λ o. answer_text (BrokenOff (layout_at s) (initiator_of o) why.replies)) same;
          came_is = why.came_is ∙ ap (λ o. order_events_before s o (length why.replies) ++ order_event_at s o (length why.replies)) same;
          kept_is = why.kept_is ∙ ap (λ o. order_events_before s o (length why.replies)) same;
        },
      )

  pub turns_halted_so : (turn : Turn) (n : ℕ) (t u : List ℕ) → order ≡ Turns turn n → (halt : Halt) (came kept : List (List ℕ))
      → TurnsHalt (layout_at s) turn halt n s.attended t u came kept → HaltsSo halt s (Command number line ∷ []) t u came kept
  turns_halted_so turn n t u is halt came kept why = turns_not_served halt turn n t u is came kept why

  -- what is told of turns is what is told of the command
  pub turns_text_to : (turn : Turn) (n : ℕ) → order ≡ Turns turn n → turns_text (layout_at s) turn n s.attended ≡ text_to s (Command number line ∷ [])
  turns_text_to turn n is = ap told_by (sym is ∙ reads) ∙ sym (one_told (fits s (Command number line)))
    where
      told_by : Order → List ℕ
      told_by o = answer_text (cond (order_fits s o) (order_answer s number o) (BrokenOff (layout_at s) (initiator_of o) (replies_to s o)))

      whole : Answer
      whole = answer s (Command number line)

      part : Answer
      part = broken_off s (Command number line) (replies_of s (Command number line))

      one_told : (b : Bool) → flat_map answer_text (cond b (whole ∷ []) (part ∷ [])) ≡ answer_text (cond b whole part)
      one_told true = append-nil (answer_text whole)
      one_told false = append-nil (answer_text part)

  pub list_halted_so : (name : _) (t u : List ℕ) → order ≡ ListOf name → (halt : Halt) (came kept : List (List ℕ)) → ListHalt halt t u came kept → HaltsSo halt s (Command number line ∷ []) t u came kept
  list_halted_so name t u is Halts.Memory came kept why =
      subst (λ (c : List (List ℕ)). ComesTo (events_told s (Command number line ∷ [])) c kept) (sym why.0)
      (subst (ComesTo (events_told s (Command number line ∷ [])) []) (sym why.1) (comes_none (events_told s (Command number line ∷ []))))
  list_halted_so name t u is Halts.Book came kept why = absurd why
  list_halted_so name t u is Halts.Disk came kept why =
      let same : ListOf name ≡ order_in s line = sym is ∙ reads in
      subst (λ (w : List ℕ). HaltsSo Halts.Disk s (Command number line ∷ []) t w came kept) (sym why.0)
      (broken_at_once s (Command number line) t came kept refl (why.1 ∙ ap (λ o. order_events_before s o 0 ++ order_event_at s o 0) same) (why.2 ∙ ap (λ o. order_events_before s o 0) same))

  change_not_served : (halt : Halt) (change : JobChange) (job : ℕ) (t u : List ℕ) → order ≡ Change change job → (came kept : List (List ℕ)) → ChangeHalt halt (call_fits s.attended.state (call_for change (tables_at s) job)) (change_event change s job) t u came kept
      → HaltsSo halt s (Command number line ∷ []) t u came kept
  change_not_served Halts.Memory change job t u is came kept why =
      let same : Change change job ≡ order_in s line = sym is ∙ reads in
      comes_one s (Command number line) came kept (subst (λ (events : List (List ℕ)). ComesTo events came kept) (ap (order_events s) same) why)
  change_not_served Halts.Book change job t u is came kept why =
      let same : Change change job ≡ order_in s line = sym is ∙ reads in
      request_full s (Command number line) t u came kept (sym (ap (order_fits s) same) ∙ why.0)
      (why.1 ∙ sym (append-nil t) ∙ ap (λ o. t ++ answer_text (BrokenOff (layout_at s) (initiator_of o) (replies_to s o))) same)
      (why.2 ∙ ap (λ (f : Bool). cond f (change_event change s job) []) (sym why.0) ∙ ap (order_events s) same) (why.3 ∙ sym why.2)
  change_not_served Halts.Disk change job t u is came kept why =
      let same : Change change job ≡ order_in s line = sym is ∙ reads in
      subst (λ (w : List ℕ). HaltsSo Halts.Disk s (Command number line ∷ []) t w came kept) (sym why.0)
      (broken_at_once s (Command number line) t came kept refl (why.1 ∙ ap (λ o. order_events_before s o 0 ++ order_event_at s o 0) same) (why.2 ∙ ap (λ o. order_events_before s o 0) same))

  pub change_halted_so : (tables : TablesModel) (change : JobChange) (job : ℕ) (t u : List ℕ) → tables ≡ tables_at s → order ≡ Change change job → (halt : Halt) (came kept : List (List ℕ))
      → ChangeHalt halt (call_fits s.attended.state (call_for change tables job)) (spelled (event_in (call_for change tables job))) t u came kept → HaltsSo halt s (Command number line ∷ []) t u came kept
  change_halted_so tables change job t u are is halt came kept why =
      change_not_served halt change job t u is came kept (subst (λ (w : TablesModel). ChangeHalt halt (call_fits s.attended.state (call_for change w job)) (spelled (event_in (call_for change w job))) t u came kept) are why)

-- a command that is served to its end
pub order_served : {E : Type 0} (r : Result (Unit {0}) E) (a b : View) (number : ℕ) (line : List ℕ) (told : Order) (t u : List ℕ) → told ≡ order_in a.state line
    → order_fits a.state told ≡ true → b.state ≡ after_order a.state told → b.refused ≡ (a.refused || is_refusal (order_answer a.state number told))
    → b.tally ≡ with_answer a.tally (order_answer a.state number told) → b.events ≡ a.events ++ order_events a.state told
    → OnOk r (u ≡ t ++ answer_text (order_answer a.state number told)) → OnOk r (Serves a b (Command number line ∷ []) t u)
order_served r a b number line told t u same fit state refused counted came text =
    serves_one r a b (Command number line) t u
    (ap (order_fits a.state) (sym same) ∙ fit)
    (state ∙ ap (after_order a.state) same)
    (refused ∙ ap (λ o. a.refused || is_refusal (order_answer a.state number o)) same)
    (counted ∙ ap (λ o. with_answer a.tally (order_answer a.state number o)) same)
    (came ∙ ap (λ o. a.events ++ order_events a.state o) same)
    (subst (λ (o : Order). OnOk r (u ≡ t ++ answer_text (order_answer a.state number o))) same text)

-- one that refuses nothing
pub order_kept : (refused refused' : Bool) → refused' ≡ refused → refused' ≡ (refused || false)
order_kept refused refused' same = same ∙ sym (or-false refused)

-- the same of a call's result
pub order_served_on : {E : Type 0} (r : Result (Unit {0}) E) (a b : View) (number : ℕ) (line : List ℕ) (told : Order) (t u : List ℕ) → told ≡ order_in a.state line
    → OnOk r (order_fits a.state told ≡ true) → OnOk r (b.state ≡ after_order a.state told) → OnOk r (b.refused ≡ (a.refused || is_refusal (order_answer a.state number told)))
    → OnOk r (b.tally ≡ with_answer a.tally (order_answer a.state number told)) → OnOk r (b.events ≡ a.events ++ order_events a.state told)
    → OnOk r (u ≡ t ++ answer_text (order_answer a.state number told)) → OnOk r (Serves a b (Command number line ∷ []) t u)
order_served_on {E = E} (Ok x) a b number line told t u same fit state refused counted came text = order_served {E = E} (Ok x) a b number line told t u same fit state refused counted came text
order_served_on (Err e) a b number line told t u same fit state refused counted came text = tt
