-- What the two stages of an `append` leave: a record behind a closed gate, and then the gate open.
use Rattle.std.proofs.Common.{◌≡◌, ◌<◌, ◌+◌, ◌^◌, ℕ, zero, suc, true, false, List, [], ◌∷◌, ◌++◌, length, take, drop, get_or, ◌==◌, nat_le, inl, inr, refl, sym, ◌∙◌, ap, arith, length-append, length-drop, append_assoc, take-append-drop}
use Rattle.std.proofs.lemmas.Bool.{cases_eq, and_from, and_left, le-leb, ne_eqb}
use Rattle.std.proofs.lemmas.List.{append-nil, take_at, drop_at, drop_more, drop-drop}
use Rattle.std.proofs.lemmas.Nat.{from_be_bytes-to_be_bytes_4}
use Rattle.ckr_book.specs.Records.{body_length, body, is_whole, records_from, end_from, starts_open, written_record}
use Rattle.ckr_book.specs.Book.{IsBeforeOrAfter, ends_closed}
use Rattle.ckr_book.proofs.Grammar.{records_whole, records_not, end_whole, end_not, end_within, end_dropped, records_cut, end_cut}

pub length-written_record : (bytes : List ℕ) → length (written_record bytes) ≡ length bytes + 5
unfolding written_record
length-written_record bytes = omega (arith, length-append bytes (0 ∷ []))

-- a closed gate ends the list
closed_tail : (tail : List ℕ) → starts_open tail ≡ false → (records_from 0 tail ≡ []) × (end_from 0 tail ≡ 0)
closed_tail [] closed = (refl, refl)
closed_tail (gate ∷ bytes) closed =
    let not : is_whole gate bytes ≡ false = and_left (gate == 1) (nat_le (body_length bytes + 5) (length bytes)) closed in
    (records_not gate bytes not, end_not gate bytes not)

records_dropped : (skip : ℕ) (bytes : List ℕ) → records_from skip bytes ≡ records_from 0 (drop skip bytes)
records_dropped zero bytes = refl
records_dropped (suc skip) [] = refl
records_dropped (suc skip) (byte ∷ bytes) = records_dropped skip bytes

-- an open gate, a record and a closed gate
record WithRecord (bytes rest : List ℕ) : Type 0 where
  list : records_from 0 (1 ∷ written_record bytes ++ rest) ≡ bytes ∷ []
  end : end_from 0 (1 ∷ written_record bytes ++ rest) ≡ length bytes + 5
  next : drop (length bytes + 5) (1 ∷ written_record bytes ++ rest) ≡ 0 ∷ rest

written_length : (bytes rest : List ℕ) → length bytes < 2 ^ 32 → body_length (written_record bytes ++ rest) ≡ length bytes
unfolding body_length written_record
written_length bytes rest small = from_be_bytes-to_be_bytes_4 (length bytes) small

written_parts : (bytes rest : List ℕ) → drop 4 (written_record bytes ++ rest) ≡ bytes ++ 0 ∷ rest
unfolding written_record
written_parts bytes rest = append_assoc bytes (0 ∷ []) rest

opened : (bytes rest : List ℕ) → length bytes < 2 ^ 32 → WithRecord bytes rest
opened bytes rest small =
    let behind = written_record bytes ++ rest in
    let n = length bytes in
    let long = written_length bytes rest small in
    let size : length behind ≡ n + 5 + length rest = omega (arith, length-append (written_record bytes) rest, length-written_record bytes) in
    let whole : is_whole 1 behind ≡ true = and_from (1 == 1) (nat_le (body_length behind + 5) (length behind)) refl (le-leb _ _ (omega arith)) in
    let the_body : body behind ≡ bytes = ap (λ (k : ℕ). take k (drop 4 behind)) long ∙ ap (λ (l : List ℕ). take n l) (written_parts bytes rest) ∙ take_at bytes (0 ∷ rest) n refl in
    let gate : drop (n + 4) behind ≡ 0 ∷ rest =
    ap (λ (k : ℕ). drop k behind) (omega arith) ∙ sym (drop-drop n 4 behind) ∙ ap (λ (l : List ℕ). drop n l) (written_parts bytes rest) ∙ drop_at bytes (0 ∷ rest) n refl in
    let none = closed_tail (0 ∷ rest) refl in
    let five : n + 5 ≡ suc (n + 4) = omega arith in
    record {
      list = records_whole 1 behind whole
          ∙ ap (λ (l : List ℕ). l ∷ records_from (body_length behind + 4) behind) the_body
          ∙ ap (λ (k : ℕ). bytes ∷ records_from (k + 4) behind) long
          ∙ ap (λ (l : List (List ℕ)). bytes ∷ l) (records_dropped (n + 4) behind ∙ ap (λ (l : List ℕ). records_from 0 l) gate ∙ none.0);
      end = end_whole 1 behind whole
          ∙ ap (λ (k : ℕ). suc (end_from (k + 4) behind)) long
          ∙ ap (λ (k : ℕ). suc k) (end_dropped (n + 4) behind (omega arith) ∙ ap (λ (l : List ℕ). n + 4 + end_from 0 l) gate ∙ ap (λ (k : ℕ). n + 4 + k) none.1)
          ∙ (omega arith);
      next = ap (λ (k : ℕ). drop k (1 ∷ behind)) five ∙ gate;
    }

-- behind any gate that isn't open, nothing
shut : (gate : ℕ) (bytes : List ℕ) → (gate ≡ 1 → ⊥) → starts_open (gate ∷ bytes) ≡ false
shut gate bytes not = ne_eqb gate 1 not

pub starts_open-take : (bytes : List ℕ) → starts_open (take 1 bytes) ≡ starts_open bytes
starts_open-take [] = refl
starts_open-take (gate ∷ bytes) = refl

-- two lists with one front up to the end of the first
module _ (old new : List ℕ) (as_long : length new ≡ length old) (front : take (end_from 0 old) new ≡ take (end_from 0 old) old) where
  place : ℕ
  place = end_from 0 old

  split : new ≡ take (end_from 0 old) old ++ drop (end_from 0 old) new
  split = sym (take-append-drop (end_from 0 old) new) ∙ ap (λ (l : List ℕ). l ++ drop (end_from 0 old) new) front

  long : end_from 0 old + length (drop (end_from 0 old) new) ≡ length old
  long = omega (arith, end_within 0 old, length-drop (end_from 0 old) new)

  pub same_front : (records_from 0 new ≡ records_from 0 old ++ records_from 0 (drop (end_from 0 old) new)) × (end_from 0 new ≡ end_from 0 old + end_from 0 (drop (end_from 0 old) new))
  same_front = (
    ap (λ (l : List ℕ). records_from 0 l) split ∙ records_cut 0 old (drop (end_from 0 old) new) long,
    ap (λ (l : List ℕ). end_from 0 l) split ∙ end_cut 0 old (drop (end_from 0 old) new) long,
  )

  pub still_closed : starts_open (drop (end_from 0 old) new) ≡ false → (records_from 0 new ≡ records_from 0 old) × (end_from 0 new ≡ end_from 0 old)
  still_closed closed =
      let none = closed_tail (drop (end_from 0 old) new) closed in (
        same_front.0 ∙ ap (λ (l : List (List ℕ)). records_from 0 old ++ l) none.0 ∙ append-nil (records_from 0 old),
        same_front.1 ∙ ap (λ (k : ℕ). end_from 0 old + k) none.1 ∙ (omega arith),
      )

-- a list that has a record behind the gate at the end of the first
module _ (old new bytes rest : List ℕ) (as_long : length new ≡ length old) (front : take (end_from 0 old) new ≡ take (end_from 0 old) old)
    (inside : end_from 0 old < length old) (behind : drop (end_from 0 old + 1) new ≡ written_record bytes ++ rest) (small : length bytes < 2 ^ 32) where
  tail : (gate : ℕ) → get_or new (end_from 0 old) 0 ≡ gate → drop (end_from 0 old) new ≡ gate ∷ written_record bytes ++ rest
  tail gate is = drop_more new (end_from 0 old) 0 (omega arith) ∙ ap (λ (k : ℕ). k ∷ drop (end_from 0 old + 1) new) is ∙ ap (λ (l : List ℕ). gate ∷ l) behind

  pub with_open_gate : get_or new (end_from 0 old) 0 ≡ 1 → (records_from 0 new ≡ records_from 0 old ++ bytes ∷ []) × (end_from 0 new ≡ end_from 0 old + (length bytes + 5)) × (starts_open (drop (end_from 0 old + (length bytes + 5)) new) ≡ false)
  with_open_gate is =
      let both = same_front old new as_long front in
      let open_tail = opened bytes rest small in
      let next : drop (end_from 0 old + (length bytes + 5)) new ≡ 0 ∷ rest =
      sym (drop-drop (length bytes + 5) (end_from 0 old) new) ∙ ap (λ (l : List ℕ). drop (length bytes + 5) l) (tail 1 is) ∙ open_tail.next in (
        both.0 ∙ ap (λ (l : List ℕ). records_from 0 old ++ records_from 0 l) (tail 1 is) ∙ ap (λ (l : List (List ℕ)). records_from 0 old ++ l) open_tail.list,
        both.1 ∙ ap (λ (l : List ℕ). end_from 0 old + end_from 0 l) (tail 1 is) ∙ ap (λ (k : ℕ). end_from 0 old + k) open_tail.end,
        ap (λ (l : List ℕ). starts_open l) next,
      )

  pub with_any_gate : IsBeforeOrAfter (records_from 0 old) bytes (records_from 0 new) × ends_closed new
  with_any_gate = elim (cases_eq (get_or new (end_from 0 old) 0) 1) [
    | inl is ↦ (inr (with_open_gate is).0, ap (λ (k : ℕ). starts_open (drop k new)) (with_open_gate is).1 ∙ (with_open_gate is).2)
    | inr not ↦ (inl (still_closed old new as_long front (its_gate not)).0, ap (λ (k : ℕ). starts_open (drop k new)) (still_closed old new as_long front (its_gate not)).1 ∙ its_gate not)
  ]
    where
      its_gate : (get_or new (end_from 0 old) 0 ≡ 1 → ⊥) → starts_open (drop (end_from 0 old) new) ≡ false
      its_gate not = ap (λ (l : List ℕ). starts_open l) (tail (get_or new (end_from 0 old) 0) refl) ∙ shut (get_or new (end_from 0 old) 0) (written_record bytes ++ rest) not
