-- The place of a number, found by halving, and what stands there.
use Rattle.std.proofs.Common.{◌≡◌, ◌<◌, ◌≤◌, ◌+◌, ℕ, zero, suc, Bool, true, false, not, IsTrue, List, [], ◌∷◌, length, slice_get, slice_index_or, refl, ap, sym, ◌∙◌, arith, cond, Option, None, Some, nat_lt}
use Rattle.std.specs.List.{list_all, find, position, position_or_len}
use Rattle.std.specs.List.Sorted.{IsPartitionedBy}
use Rattle.std.specs.Option.{option_map}
use Rattle.std.proofs.lemmas.Bool.Decides.{nat_tests}
use Rattle.ckr_base.proofs.Numbers.{one-plus}
use Rattle.ckr_base.proofs.Bools.{and-first, and-second}
use Rattle.ckr_base.proofs.Options.{some-not-none}
use Rattle.ckr_library.specs.Places.{lead}
use Rattle.ckr_queue.specs.declared.entry.QueueEntry.{QueueEntry}
use Rattle.ckr_queue.specs.Queue.{is_of, is_above, is_below, rises, state_of}

above_at : (low : ℕ) (entries : List QueueEntry) (place : ℕ) (d : QueueEntry) → IsTrue (list_all (is_above low) entries) → place < length entries → IsTrue (is_above low (slice_index_or entries place d))
above_at low [] place d all inside = absurd (omega (arith, inside))
above_at low (entry ∷ entries) zero d all inside = and-first _ _ all
above_at low (entry ∷ entries) (suc place) d all inside = above_at low entries place d (and-second _ _ all) (omega (arith, inside))

-- the lower numbers stand before the others
pub parted : (number : ℕ) (entries : List QueueEntry) → IsTrue (rises entries) → IsPartitionedBy (is_below number) entries
parted number [] rise i j d le inside lower = absurd (omega (arith, inside))
parted number (entry ∷ entries) rise zero zero d le inside lower = lower
parted number (entry ∷ entries) rise zero (suc j) d le inside lower =
    between entry (slice_index_or entries j d) (above_at entry.number entries j d (and-first _ _ rise) (omega (arith, inside))) lower
  where
    between : (one other : QueueEntry) → is_above one.number other ≡ true → is_below number other ≡ true → is_below number one ≡ true
    between one other e f = grind (arith, nat_tests)
parted number (entry ∷ entries) rise (suc i) zero d le inside lower = absurd (omega (arith, le))
parted number (entry ∷ entries) rise (suc i) (suc j) d le inside lower = parted number entries (and-second _ _ rise) i j d (omega (arith, le)) (omega (arith, inside)) lower

-- ---- what stands at the place

none_above : (number low : ℕ) (entries : List QueueEntry) → number ≤ low → IsTrue (list_all (is_above low) entries) → find (is_of number) entries ≡ None
none_above number low [] h all = refl
none_above number low (entry ∷ entries) h all = ap (λ b. cond b (Some entry) (find (is_of number) entries)) (unlike number low entry h (and-first _ _ all)) ∙ none_above number low entries h (and-second _ _ all)
  where
    unlike : (number low : ℕ) (entry : QueueEntry) → number ≤ low → is_above low entry ≡ true → is_of number entry ≡ false
    unlike number low entry h e = grind (arith, nat_tests)

-- the run, if it has the number
abbrev pub checked : ℕ → Option QueueEntry → Option QueueEntry
checked number None = None
checked number (Some entry) = cond (is_of number entry) (Some entry) None

abbrev pub checked_place : ℕ → ℕ → Option QueueEntry → Option ℕ
checked_place number place None = None
checked_place number place (Some entry) = cond (is_of number entry) (Some place) None

lower_other : (number : ℕ) (entry : QueueEntry) → is_below number entry ≡ true → is_of number entry ≡ false
lower_other number entry e = grind (arith, nat_tests)

not_lower : (number : ℕ) (entry : QueueEntry) → is_below number entry ≡ false → number ≤ entry.number
not_lower number entry e = grind (arith, nat_tests)

find-place : (number : ℕ) (entries : List QueueEntry) → IsTrue (rises entries) → find (is_of number) entries ≡ checked number (slice_get entries (lead (is_below number) entries))
find-place number [] rise = refl
find-place number (entry ∷ entries) rise =
    elim (is_below number entry) as (λ b. is_below number entry ≡ b → find (is_of number) (entry ∷ entries) ≡ checked number (slice_get (entry ∷ entries) (cond b (suc (lead (is_below number) entries)) 0))) [
      | true ↦ λ e. ap (λ b. cond b (Some entry) (find (is_of number) entries)) (lower_other number entry e) ∙ find-place number entries (and-second _ _ rise)
      | false ↦ λ e. ap (λ rest. cond (is_of number entry) (Some entry) rest) (none_above number entry.number entries (not_lower number entry e) (and-first _ _ rise))
    ] refl

position-cons : (p : QueueEntry → Bool) (x : QueueEntry) (xs : List QueueEntry) → position p (x ∷ xs) ≡ cond (p x) (Some 0) (option_map (λ n. suc n) (position p xs))
position-cons p x xs =
    elim (p x) as (λ b. cond (nat_lt (cond (not b) (1 + position_or_len p xs) 0) (suc (length xs))) (Some (cond (not b) (1 + position_or_len p xs) 0)) None ≡ cond b (Some 0) (option_map (λ n. suc n) (position p xs))) [
      | true ↦ ap (λ b. cond b (Some 0) None) (some (length xs))
      | false ↦
          ap (λ b. cond b (Some (1 + position_or_len p xs)) None) (shift (position_or_len p xs) (length xs))
          ∙ ap (λ n. cond (nat_lt (position_or_len p xs) (length xs)) (Some n) None) (one-plus (position_or_len p xs))
          ∙ through (nat_lt (position_or_len p xs) (length xs)) (position_or_len p xs)
    ]
  where
    some : (n : ℕ) → nat_lt 0 (suc n) ≡ true
    some n = grind (arith, nat_tests)

    shift : (k n : ℕ) → nat_lt (1 + k) (suc n) ≡ nat_lt k n
    shift k n = grind (arith, nat_tests)

    through : (b : Bool) (k : ℕ) → cond b (Some (suc k)) None ≡ option_map (λ n. suc n) (cond b (Some k) None)
    through true k = refl
    through false k = refl

none_position : (p : QueueEntry → Bool) (xs : List QueueEntry) → find p xs ≡ None → position p xs ≡ None
none_position p [] e = refl
none_position p (x ∷ xs) e =
    position-cons p x xs ∙ elim (p x) as (λ b. cond b (Some x) (find p xs) ≡ None → cond b (Some 0) (option_map (λ n. suc n) (position p xs)) ≡ None) [
      | true ↦ λ there. absurd (some-not-none x there)
      | false ↦ λ rest. ap (option_map (λ n. suc n)) (none_position p xs rest)
    ] e

next_place : (number place : ℕ) (found : Option QueueEntry) → option_map (λ n. suc n) (checked_place number place found) ≡ checked_place number (suc place) found
next_place number place None = refl
next_place number place (Some entry) = elim (is_of number entry) as (λ b. option_map (λ n. suc n) (cond b (Some place) None) ≡ cond b (Some (suc place)) None) [ true ↦ refl | false ↦ refl ]

position-place : (number : ℕ) (entries : List QueueEntry) → IsTrue (rises entries) → position (is_of number) entries ≡ checked_place number (lead (is_below number) entries) (slice_get entries (lead (is_below number) entries))
position-place number [] rise = refl
position-place number (entry ∷ entries) rise =
    position-cons (is_of number) entry entries ∙ elim (is_below number entry) as (λ b. is_below number entry ≡ b → cond (is_of number entry) (Some 0) (option_map (λ n. suc n) (position (is_of number) entries)) ≡ checked_place number (cond b (suc (lead (is_below number) entries)) 0) (slice_get (entry ∷ entries) (cond b (suc (lead (is_below number) entries)) 0))) [
      | true ↦ λ e.
          ap (λ b. cond b (Some 0) (option_map (λ n. suc n) (position (is_of number) entries))) (lower_other number entry e)
          ∙ ap (option_map (λ n. suc n)) (position-place number entries (and-second _ _ rise))
          ∙ next_place number (lead (is_below number) entries) (slice_get entries (lead (is_below number) entries))
      | false ↦ λ e.
          ap (λ rest. cond (is_of number entry) (Some 0) (option_map (λ n. suc n) rest)) (none_position (is_of number) entries (none_above number entry.number entries (not_lower number entry e) (and-first _ _ rise)))
    ] refl

-- ---- what a look at the place tells

module _ (number : ℕ) (entries : List QueueEntry) (rise : IsTrue (rises entries)) (place : ℕ) (at : place ≡ lead (is_below number) entries) (found : Option QueueEntry) (seen : found ≡ slice_get entries place) where
  pub place-seen : checked_place number place found ≡ position (is_of number) entries
  place-seen = ap (checked_place number place) seen ∙ ap (λ i. checked_place number i (slice_get entries i)) at ∙ sym (position-place number entries rise)

  pub state-seen : option_map (λ (entry : QueueEntry). entry.state) (checked number found) ≡ state_of number entries
  state-seen = ap (λ o. option_map (λ (entry : QueueEntry). entry.state) (checked number o)) seen ∙ ap (λ i. option_map (λ (entry : QueueEntry). entry.state) (checked number (slice_get entries i))) at ∙ ap (option_map (λ (entry : QueueEntry). entry.state)) (sym (find-place number entries rise))
