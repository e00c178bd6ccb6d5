-- Requests served one after another.
use Rattle.std.proofs.Common.{◌≡◌, ℕ, Bool, true, false, cond, ◌||◌, ◌&&◌, List, [], ◌∷◌, ◌++◌, Result, Ok, Err, OnOk, refl, sym, ap, ◌∙◌, append_assoc, append-nil}
use Rattle.std.specs.List.{flat_map, list_any}
use Rattle.std.proofs.lemmas.Bool.{false≢true}
use Rattle.std.proofs.lemmas.Grind.{flat_map-append}
use Rattle.ckr_base.proofs.Bools.{and-first, and-second, or-assoc, or-false}
use Rattle.ckr_cards.specs.Session.{Handed}
use Rattle.ckr_session.specs.Staff.{StaffedDesk}
use Rattle.ckr_session.specs.declared.tally.Tally.{Tally}
use Rattle.ckr_session.specs.Calls.{Answer, answer, after, fits, replies_of, calls, after_all, all_fit, is_refusal, broken_off}
use Rattle.ckr_session.specs.Events.{events_told, request_events}
use Rattle.ckr_session.specs.Tallies.{with_answer, with_answers}
use Rattle.ckr_session.specs.Texts.{answer_text}
use Rattle.ckr_session.specs.Service.{View, Serves, text_to}
use Rattle.ckr_session.proofs.Service.Events.{events_told-append, events_told-one}
use Rattle.ckr_session.proofs.Service.Tallies.{with_answers-append}

-- ---- what fits

and_assoc : (a b c : Bool) → (a && (b && c)) ≡ (a && b && c)
and_assoc true b c = refl
and_assoc false b c = refl

pub all_fit-append : (s : StaffedDesk) (xs ys : List Handed) → all_fit s (xs ++ ys) ≡ (all_fit s xs && all_fit (after_all s xs) ys)
all_fit-append s [] ys = refl
all_fit-append s (x ∷ xs) ys =
    ap (λ b. fits s x && b) (all_fit-append (after s x) xs ys) ∙ and_assoc (fits s x) (all_fit (after s x) xs) (all_fit (after_all (after s x) xs) ys)

pub after_all-append : (s : StaffedDesk) (xs ys : List Handed) → after_all s (xs ++ ys) ≡ after_all (after_all s xs) ys
after_all-append s [] ys = refl
after_all-append s (x ∷ xs) ys = after_all-append (after s x) xs ys

-- one call, and those behind it
abbrev call_and : StaffedDesk → Handed → List Answer → Bool → List Answer
call_and s x rest b = cond b (answer s x ∷ rest) (broken_off s x (replies_of s x) ∷ [])

-- ---- what is answered

pub calls-append : (s : StaffedDesk) (xs ys : List Handed) → all_fit s xs ≡ true → calls s (xs ++ ys) ≡ calls s xs ++ calls (after_all s xs) ys
calls-append s [] ys e = refl
calls-append s (x ∷ xs) ys e =
    let first : fits s x ≡ true = and-first (fits s x) (all_fit (after s x) xs) e in
    let rest = calls-append (after s x) xs ys (and-second (fits s x) (all_fit (after s x) xs) e) in
    ap (call_and s x (calls (after s x) (xs ++ ys))) first
    ∙ ap (λ l. answer s x ∷ l) rest
    ∙ sym (ap (λ b. call_and s x (calls (after s x) xs) b ++ calls (after_all (after s x) xs) ys) first)

-- nothing is answered behind a request that the book has no room for
pub calls-full : (s : StaffedDesk) (xs ys : List Handed) → all_fit s xs ≡ false → calls s (xs ++ ys) ≡ calls s xs
calls-full s [] ys e = absurd (false≢true (sym e))
calls-full s (x ∷ xs) ys e = by_first (λ rest. calls-full (after s x) xs ys rest) (fits s x) refl
  where
    by_first : (all_fit (after s x) xs ≡ false → calls (after s x) (xs ++ ys) ≡ calls (after s x) xs) → (b : Bool) → fits s x ≡ b → calls s ((x ∷ xs) ++ ys) ≡ calls s (x ∷ xs)
    by_first later true first =
        ap (call_and s x (calls (after s x) (xs ++ ys))) first
        ∙ ap (λ l. answer s x ∷ l) (later (sym (ap (λ b. b && all_fit (after s x) xs) first) ∙ e))
        ∙ sym (ap (call_and s x (calls (after s x) xs)) first)
    by_first later false first = ap (call_and s x (calls (after s x) (xs ++ ys))) first ∙ sym (ap (call_and s x (calls (after s x) xs)) first)

pub list_any-append : {X : Type 0} (p : X → Bool) (xs ys : List X) → list_any p (xs ++ ys) ≡ (list_any p xs || list_any p ys)
list_any-append p [] ys = refl
list_any-append p (x ∷ xs) ys = ap (λ b. p x || b) (list_any-append p xs ys) ∙ sym (or-assoc (p x) (list_any p xs) (list_any p ys))

pub text_to-append : (s : StaffedDesk) (xs ys : List Handed) → all_fit s xs ≡ true → text_to s (xs ++ ys) ≡ text_to s xs ++ text_to (after_all s xs) ys
text_to-append s xs ys e = ap (flat_map answer_text) (calls-append s xs ys e) ∙ flat_map-append answer_text (calls s xs) (calls (after_all s xs) ys)

pub text_to-full : (s : StaffedDesk) (xs ys : List Handed) → all_fit s xs ≡ false → text_to s (xs ++ ys) ≡ text_to s xs
text_to-full s xs ys e = ap (flat_map answer_text) (calls-full s xs ys e)

-- ---- what is served

pub Serves-nil : (a : View) (t : List ℕ) → Serves a a [] t t
Serves-nil a t = record { fits = refl; state = refl; refused = or_false a.refused; tally = refl; events = sym (append-nil a.events); text = sym (append-nil t) }
  where
    or_false : (b : Bool) → b ≡ (b || false)
    or_false true = refl
    or_false false = refl

pub Serves-append : (a b c : View) (xs ys : List Handed) (t u v : List ℕ) → Serves a b xs t u → Serves b c ys u v → Serves a c (xs ++ ys) t v
Serves-append a b c xs ys t u v first second =
    let from = first.state in
    let both = calls-append a.state xs ys first.fits in
    record {
      fits = all_fit-append a.state xs ys ∙ ap (λ r. r && all_fit (after_all a.state xs) ys) first.fits ∙ ap (λ s. all_fit s ys) (sym from) ∙ second.fits;
      state = second.state ∙ ap (λ s. after_all s ys) from ∙ sym (after_all-append a.state xs ys);
      refused = second.refused
          ∙ ap (λ r. r || list_any is_refusal (calls b.state ys)) first.refused
          ∙ ap (λ s. a.refused || list_any is_refusal (calls a.state xs) || list_any is_refusal (calls s ys)) from
          ∙ or-assoc a.refused (list_any is_refusal (calls a.state xs)) (list_any is_refusal (calls (after_all a.state xs) ys))
          ∙ ap (λ r. a.refused || r) (sym (ap (list_any is_refusal) both ∙ list_any-append is_refusal (calls a.state xs) (calls (after_all a.state xs) ys)));
      tally = second.tally
          ∙ ap (λ (t : Tally). with_answers t (calls b.state ys)) first.tally
          ∙ ap (λ s. with_answers (with_answers a.tally (calls a.state xs)) (calls s ys)) from
          ∙ sym (ap (with_answers a.tally) both ∙ with_answers-append a.tally (calls a.state xs) (calls (after_all a.state xs) ys));
      events = second.events
          ∙ ap (λ e. e ++ events_told b.state ys) first.events
          ∙ ap (λ s. (a.events ++ events_told a.state xs) ++ events_told s ys) from
          ∙ append_assoc a.events (events_told a.state xs) (events_told (after_all a.state xs) ys)
          ∙ ap (λ e. a.events ++ e) (sym (events_told-append a.state xs ys first.fits));
      text = second.text
          ∙ ap (λ w. w ++ text_to b.state ys) first.text
          ∙ ap (λ s. t ++ text_to a.state xs ++ text_to s ys) from
          ∙ append_assoc t (text_to a.state xs) (text_to (after_all a.state xs) ys)
          ∙ ap (λ w. t ++ w) (sym (text_to-append a.state xs ys first.fits));
    }

pub Serves-from : (a b c : View) (xs ys : List Handed) (t u : List ℕ) → Serves a b xs [] t → Serves b c ys [] u → Serves a c (xs ++ ys) [] (t ++ u)
Serves-from a b c xs ys t u first second =
    Serves-append a b c xs ys [] t (t ++ u) first
    (record { fits = second.fits; state = second.state; refused = second.refused; tally = second.tally; events = second.events; text = ap (λ l. t ++ l) second.text })

-- ---- one request

-- where its answer is told
pub serves_one : {E : Type 0} (r : Result (Unit {0}) E) (a b : View) (request : Handed) (t u : List ℕ) → fits a.state request ≡ true → b.state ≡ after a.state request
    → b.refused ≡ (a.refused || is_refusal (answer a.state request)) → b.tally ≡ with_answer a.tally (answer a.state request) → b.events ≡ a.events ++ request_events a.state request
    → OnOk r (u ≡ t ++ answer_text (answer a.state request)) → OnOk r (Serves a b (request ∷ []) t u)
serves_one (Err e) a b request t u fit state refused counted came text = tt
serves_one (Ok x) a b request t u fit state refused counted came text =
    let called : calls a.state (request ∷ []) ≡ answer a.state request ∷ [] = ap (call_and a.state request []) fit in
    record {
      fits = ap (λ f. f && true) fit;
      state = state;
      refused = refused ∙ ap (λ b. a.refused || b) (sym (ap (list_any is_refusal) called ∙ or-false (is_refusal (answer a.state request))));
      tally = counted ∙ sym (ap (with_answers a.tally) called);
      events = came ∙ ap (λ e. a.events ++ e) (sym (events_told-one a.state request));
      text = text ∙ ap (λ l. t ++ l) (sym (ap (flat_map answer_text) called ∙ append-nil (answer_text (answer a.state request))));
    }

-- where the book has no room for it
pub text_to-one : (s : StaffedDesk) (request : Handed) → fits s request ≡ false → text_to s (request ∷ []) ≡ answer_text (broken_off s request (replies_of s request))
text_to-one s request full = ap (λ b. flat_map answer_text (call_and s request [] b)) full ∙ append-nil (answer_text (broken_off s request (replies_of s request)))
