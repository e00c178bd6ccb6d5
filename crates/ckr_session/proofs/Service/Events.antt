-- The events of requests, one after another.
use Rattle.std.proofs.Common.{◌≡◌, ◌≤◌, ◌+◌, ℕ, zero, suc, Bool, true, false, cond, ◌&&◌, List, [], ◌∷◌, ◌++◌, length, inl, inr, ◌⊎◌, refl, sym, ap, ◌∙◌, append_assoc, append-nil, length-append, arith}
use Rattle.std.proofs.lemmas.Bool.{false≢true}
use Rattle.ckr_base.proofs.Bools.{and-first, and-second}
use Rattle.ckr_cards.specs.Session.{Handed}
use Rattle.ckr_desk.specs.Model.Reply.{Reply}
use Rattle.ckr_desk.specs.Model.Turn.{Turn}
use Rattle.ckr_session.specs.Calls.{after, fits, after_all, all_fit, turns}
use Rattle.ckr_session.specs.Events.{behind_turns, turn_event, turns_events, request_events, events_told}
use Rattle.ckr_session.specs.Service.{ComesTo}
use Rattle.ckr_session.specs.Staff.{AttendedDesk, StaffedDesk, attended_event, behind_attended}

-- ---- requests

pub events_told-append : (s : StaffedDesk) (xs ys : List Handed) → all_fit s xs ≡ true → events_told s (xs ++ ys) ≡ events_told s xs ++ events_told (after_all s xs) ys
events_told-append s [] ys e = refl
events_told-append s (x ∷ xs) ys e =
    let first : fits s x ≡ true = and-first (fits s x) (all_fit (after s x) xs) e in
    let rest = events_told-append (after s x) xs ys (and-second (fits s x) (all_fit (after s x) xs) e) in
    ap (λ b. request_events s x ++ cond b (events_told (after s x) (xs ++ ys)) []) first
    ∙ ap (λ l. request_events s x ++ l) rest
    ∙ sym (append_assoc (request_events s x) (events_told (after s x) xs) (events_told (after_all (after s x) xs) ys))
    ∙ sym (ap (λ b. (request_events s x ++ cond b (events_told (after s x) xs) []) ++ events_told (after_all (after s x) xs) ys) first)

-- nothing comes behind a request that the book has no room for
pub events_told-full : (s : StaffedDesk) (xs ys : List Handed) → all_fit s xs ≡ false → events_told s (xs ++ ys) ≡ events_told s xs
events_told-full s [] ys e = absurd (false≢true (sym e))
events_told-full s (x ∷ xs) ys e = by_first (λ rest. events_told-full (after s x) xs ys rest) (fits s x) refl
  where
    by_first : (all_fit (after s x) xs ≡ false → events_told (after s x) (xs ++ ys) ≡ events_told (after s x) xs) → (b : Bool) → fits s x ≡ b → events_told s ((x ∷ xs) ++ ys) ≡ events_told s (x ∷ xs)
    by_first later true first =
        ap (λ b. request_events s x ++ cond b (events_told (after s x) (xs ++ ys)) []) first
        ∙ ap (λ l. request_events s x ++ l) (later (sym (ap (λ b. b && all_fit (after s x) xs) first) ∙ e))
        ∙ sym (ap (λ b. request_events s x ++ cond b (events_told (after s x) xs) []) first)
    by_first later false first =
        ap (λ b. request_events s x ++ cond b (events_told (after s x) (xs ++ ys)) []) first
        ∙ sym (ap (λ b. request_events s x ++ cond b (events_told (after s x) xs) []) first)

-- those of the first requests come first
pub events_told-front : (s : StaffedDesk) (xs ys : List Handed) → (more : List (List ℕ)) × (events_told s (xs ++ ys) ≡ events_told s xs ++ more)
events_told-front s xs ys = by_rest (all_fit s xs) refl
  where
    by_rest : (b : Bool) → all_fit s xs ≡ b → (more : List (List ℕ)) × (events_told s (xs ++ ys) ≡ events_told s xs ++ more)
    by_rest true fit = (events_told (after_all s xs) ys, events_told-append s xs ys fit)
    by_rest false full = ([], events_told-full s xs ys full ∙ sym (append-nil (events_told s xs)))

pub events_told-one : (s : StaffedDesk) (request : Handed) → events_told s (request ∷ []) ≡ request_events s request
events_told-one s request = by (fits s request)
  where
    by : (b : Bool) → request_events s request ++ cond b [] [] ≡ request_events s request
    by true = append-nil (request_events s request)
    by false = append-nil (request_events s request)

-- ---- up to some call

pub comes_all : (events more : List (List ℕ)) (done : List (List ℕ)) → events ≡ done ++ more → ComesTo events done done
comes_all events more done front = record { more = more; front = front; kept_is = refl }

pub comes_behind : (s s' : StaffedDesk) (xs ys : List Handed) (came kept : List (List ℕ)) → all_fit s xs ≡ true → s' ≡ after_all s xs → ComesTo (events_told s' ys) came kept
    → ComesTo (events_told s (xs ++ ys)) (events_told s xs ++ came) (events_told s xs ++ kept)
comes_behind s s' xs ys came kept fit is c = record {
  more = c.more;
  front = events_told-append s xs ys fit
      ∙ ap (λ st. events_told s xs ++ events_told st ys) (sym is)
      ∙ ap (λ l. events_told s xs ++ l) c.front
      ∙ sym (append_assoc (events_told s xs) came c.more);
  kept_is = ap (λ l. events_told s xs ++ l) c.kept_is;
}

pub comes_before : (s : StaffedDesk) (xs ys : List Handed) (came kept : List (List ℕ)) → ComesTo (events_told s xs) came kept → ComesTo (events_told s (xs ++ ys)) came kept
comes_before s xs ys came kept c =
    let more = events_told-front s xs ys in
    record {
      more = c.more ++ more.0;
      front = more.1 ∙ ap (λ l. l ++ more.0) c.front ∙ append_assoc came c.more more.0;
      kept_is = c.kept_is;
    }

-- ---- turns

module _ (turn : Turn) where
  -- one turn more
  pub behind_turns-more : (n : ℕ) (s : AttendedDesk) → behind_turns turn (suc n) s ≡ behind_attended (behind_turns turn n s) turn
  behind_turns-more zero s = refl
  behind_turns-more (suc n) s = behind_turns-more n (behind_attended s turn)

  pub turns_events-more : (n : ℕ) (s : AttendedDesk) → turns_events turn (suc n) s ≡ turns_events turn n s ++ turn_event turn n s
  turns_events-more zero s = append-nil (turn_event turn zero s)
  turns_events-more (suc n) s =
      let first = attended_event s turn in
      let behind = behind_attended s turn in
      ap (λ l. first ++ l) (turns_events-more n behind) ∙ sym (append_assoc first (turns_events turn n behind) (turn_event turn n behind))

  turns_events-split : (made rest : List Reply) (s : AttendedDesk) → turns_events turn (length (made ++ rest)) s ≡ turns_events turn (length made) s ++ turns_events turn (length rest) (behind_turns turn (length made) s)
  turns_events-split [] rest s = refl
  turns_events-split (reply ∷ made) rest s =
      let first = attended_event s turn in
      let behind = behind_attended s turn in
      ap (λ l. first ++ l) (turns_events-split made rest behind)
      ∙ sym (append_assoc first (turns_events turn (length made) behind) (turns_events turn (length rest) (behind_turns turn (length made) behind)))

  -- those of the first turns come first
  pub turns_events-front : (n : ℕ) (s : AttendedDesk) (made rest : List Reply) → turns turn n s ≡ made ++ rest
      → turns_events turn (length (turns turn n s)) s ≡ turns_events turn (length made) s ++ turns_events turn (length rest) (behind_turns turn (length made) s)
  turns_events-front n s made rest is = ap (λ (rs : List Reply). turns_events turn (length rs) s) is ∙ turns_events-split made rest s

  pub length-more : (made : List Reply) (reply : Reply) → length (made ++ reply ∷ []) ≡ suc (length made)
  length-more made reply = length-append made (reply ∷ []) ∙ (let more : length made + 1 ≡ suc (length made) = omega arith in more)

-- a call has one event at most, which an image has or lacks
pub front_of_few : (came front more : List (List ℕ)) → length came ≤ 1 → came ≡ front ++ more → (front ≡ came) ⊎ (front ≡ [])
front_of_few came [] more few is = inr refl
front_of_few came (x ∷ xs) [] few is = inl (sym (is ∙ append-nil (x ∷ xs)))
front_of_few came (x ∷ xs) (y ∷ ys) few is = absurd (let long : length came ≡ suc (length xs) + suc (length ys) = ap length is ∙ length-append (x ∷ xs) (y ∷ ys) in let none : ⊥ = omega (arith, long, few) in none)
