-- The records taken, one after the other: which comes next behind so many.
use Rattle.std.proofs.Common.{◌≡◌, ◌<◌, ◌≤◌, ℕ, zero, suc, Bool, true, false, not, ◌&&◌, cond, List, [], ◌∷◌, ◌++◌, length, take, map, Option, Some, None, refl, sym, ap, ◌∙◌, subst, arith}
use Rattle.std.specs.List.{slice_get, last_or, list_all}
use Rattle.std.proofs.lemmas.Bool.{not-false}
use Rattle.ckr_match.specs.InputOrder.{Taken, Keys, is_below, may_follow, taken_of, up_to_fault, prefix_of, taken_from, is_cut, of_first, of_second, chosen, next_of}
use Rattle.ckr_match.proofs.Keys.{below-not_below, not_below-not_below, not_below_back, before_chain, out_of_order_is_low}
use Rattle.ckr_match.proofs.SortedMerge.{onto, merged, sorted_prefixes}

-- ---- the next record of one input

abbrev marked : Bool → List ℕ → Bool → Taken
marked second bytes mark = record { second = second; bytes = bytes; faulty = mark }

-- the next record of the input may follow this one
abbrev pub Fits : Keys → Option Taken → Bool → List (List ℕ) → Type 0
Fits keys None second rest = Unit {0}
Fits keys (Some last) second [] = Unit {0}
Fits keys (Some last) second (next ∷ rest) = may_follow keys last (taken_of second next) ≡ true

data PrefixHead (keys : Keys) (second : Bool) (bytes : List ℕ) (rest : List (List ℕ)) : Type 0 where
  good : prefix_of keys second (bytes ∷ rest) ≡ taken_of second bytes ∷ prefix_of keys second rest → Fits keys (Some (taken_of second bytes)) second rest → PrefixHead keys second bytes rest
  bad : (next : List ℕ) (more : List (List ℕ)) → rest ≡ next ∷ more → may_follow keys (taken_of second bytes) (taken_of second next) ≡ false → prefix_of keys second (bytes ∷ rest) ≡ marked second bytes true ∷ [] → PrefixHead keys second bytes rest

prefix_head : (keys : Keys) (second : Bool) (bytes : List ℕ) (rest : List (List ℕ)) → PrefixHead keys second bytes rest
prefix_head keys second bytes [] = good refl tt
prefix_head keys second bytes (next ∷ more) = by (may_follow keys (taken_of second bytes) (taken_of second next)) refl
  where
    by : (b : Bool) → may_follow keys (taken_of second bytes) (taken_of second next) ≡ b → PrefixHead keys second bytes (next ∷ more)
    by true e = good (ap (λ b. cond b (taken_of second bytes ∷ prefix_of keys second (next ∷ more)) (marked second bytes true ∷ [])) e) e
    by false e = bad next more refl e (ap (λ b. cond b (taken_of second bytes ∷ prefix_of keys second (next ∷ more)) (marked second bytes true ∷ [])) e)

-- ---- which input's record is taken

-- a record of the first input is taken before the next one of the second
abbrev pub GoesFirst : Keys → List ℕ → List (List ℕ) → Type 0
GoesFirst keys bytes [] = Unit {0}
GoesFirst keys bytes (other ∷ others) = is_below (keys.key true other) (keys.key false bytes) ≡ false

-- a record of the second input is taken before the next one of the first
abbrev pub GoesSecond : Keys → List ℕ → List (List ℕ) → Type 0
GoesSecond keys bytes [] = Unit {0}
GoesSecond keys bytes (other ∷ others) = is_below (keys.key true bytes) (keys.key false other) ≡ true

abbrev pub both_taken : Keys → List (List ℕ) → List (List ℕ) → List Taken
both_taken keys first second = up_to_fault (merged keys (prefix_of keys false first) (prefix_of keys true second))

onto_first : (keys : Keys) (bytes : List ℕ) (mark : Bool) (behind : List Taken → List Taken) (others : List (List ℕ)) → GoesFirst keys bytes others → onto keys (marked false bytes mark) behind (prefix_of keys true others) ≡ marked false bytes mark ∷ behind (prefix_of keys true others)
onto_first keys bytes mark behind [] g = refl
onto_first keys bytes mark behind (other ∷ others) g = by (prefix_head keys true other others)
  where
    at : (seen : Bool) (zs : List Taken) → prefix_of keys true (other ∷ others) ≡ marked true other seen ∷ zs → onto keys (marked false bytes mark) behind (prefix_of keys true (other ∷ others)) ≡ marked false bytes mark ∷ behind (prefix_of keys true (other ∷ others))
    at seen zs e =
        ap (onto keys (marked false bytes mark) behind) e
        ∙ ap (λ b. cond b (marked true other seen ∷ onto keys (marked false bytes mark) behind zs) (marked false bytes mark ∷ behind (marked true other seen ∷ zs))) g
        ∙ sym (ap (λ q. marked false bytes mark ∷ behind q) e)

    by : PrefixHead keys true other others → onto keys (marked false bytes mark) behind (prefix_of keys true (other ∷ others)) ≡ marked false bytes mark ∷ behind (prefix_of keys true (other ∷ others))
    by (good e f) = at false (prefix_of keys true others) e
    by (bad next more r f e) = at true [] e

merged_second : (keys : Keys) (bytes : List ℕ) (mark : Bool) (zs : List Taken) (others : List (List ℕ)) → GoesSecond keys bytes others → merged keys (prefix_of keys false others) (marked true bytes mark ∷ zs) ≡ marked true bytes mark ∷ merged keys (prefix_of keys false others) zs
merged_second keys bytes mark zs [] g = refl
merged_second keys bytes mark zs (other ∷ others) g = by (prefix_head keys false other others)
  where
    at : (seen : Bool) (xs : List Taken) → prefix_of keys false (other ∷ others) ≡ marked false other seen ∷ xs → merged keys (prefix_of keys false (other ∷ others)) (marked true bytes mark ∷ zs) ≡ marked true bytes mark ∷ merged keys (prefix_of keys false (other ∷ others)) zs
    at seen xs e =
        ap (λ p. merged keys p (marked true bytes mark ∷ zs)) e
        ∙ ap (λ b. cond b (marked true bytes mark ∷ onto keys (marked false other seen) (merged keys xs) zs) (marked false other seen ∷ merged keys xs (marked true bytes mark ∷ zs))) g
        ∙ sym (ap (λ p. marked true bytes mark ∷ merged keys p zs) e)

    by : PrefixHead keys false other others → merged keys (prefix_of keys false (other ∷ others)) (marked true bytes mark ∷ zs) ≡ marked true bytes mark ∷ merged keys (prefix_of keys false (other ∷ others)) zs
    by (good e f) = at false (prefix_of keys false others) e
    by (bad next more r f e) = at true [] e

-- what is taken begins with this record; it is the last one where the next of its input is out of order
data Begins (keys : Keys) (second : Bool) (bytes : List ℕ) (rest : List (List ℕ)) (taken behind : List Taken) : Type 0 where
  in_order : taken ≡ taken_of second bytes ∷ behind → Fits keys (Some (taken_of second bytes)) second rest → Begins keys second bytes rest taken behind
  is_last : (next : List ℕ) (more : List (List ℕ)) → rest ≡ next ∷ more → may_follow keys (taken_of second bytes) (taken_of second next) ≡ false → taken ≡ marked second bytes true ∷ [] → Begins keys second bytes rest taken behind

begins_first : (keys : Keys) (bytes : List ℕ) (rest others : List (List ℕ)) → GoesFirst keys bytes others → Begins keys false bytes rest (both_taken keys (bytes ∷ rest) others) (both_taken keys rest others)
begins_first keys bytes rest others g = by (prefix_head keys false bytes rest)
  where
    by : PrefixHead keys false bytes rest → Begins keys false bytes rest (both_taken keys (bytes ∷ rest) others) (both_taken keys rest others)
    by (good e f) = in_order (ap (λ p. up_to_fault (merged keys p (prefix_of keys true others))) e ∙ ap up_to_fault (onto_first keys bytes false (merged keys (prefix_of keys false rest)) others g)) f
    by (bad next more r f e) = is_last next more r f (ap (λ p. up_to_fault (merged keys p (prefix_of keys true others))) e ∙ ap up_to_fault (onto_first keys bytes true (merged keys []) others g))

begins_second : (keys : Keys) (bytes : List ℕ) (rest others : List (List ℕ)) → GoesSecond keys bytes others → Begins keys true bytes rest (both_taken keys others (bytes ∷ rest)) (both_taken keys others rest)
begins_second keys bytes rest others g = by (prefix_head keys true bytes rest)
  where
    by : PrefixHead keys true bytes rest → Begins keys true bytes rest (both_taken keys others (bytes ∷ rest)) (both_taken keys others rest)
    by (good e f) = in_order (ap (λ p. up_to_fault (merged keys (prefix_of keys false others) p)) e ∙ ap up_to_fault (merged_second keys bytes false (prefix_of keys true rest) others g)) f
    by (bad next more r f e) = is_last next more r f (ap (λ p. up_to_fault (merged keys (prefix_of keys false others) p)) e ∙ ap up_to_fault (merged_second keys bytes true [] others g))

-- ---- behind so many records

-- the record before the next one of an input
abbrev pub last_in : Option Taken → Option Taken → List Taken → Bool → Option Taken
last_in one other taken false = last_or one (of_first taken)
last_in one other taken true = last_or other (of_second taken)

abbrev pub follows_last : Keys → Option Taken → Taken → Bool
follows_last keys None next = true
follows_last keys (Some last) next = may_follow keys last next

-- what comes behind the first records: a record that is taken, the end, or a record out of order
pub data Reached (keys : Keys) (first second : List (List ℕ)) (one other : Option Taken) (taken : List Taken) (count : ℕ) : Type 0 where
  goes_on : (next : Taken) (mark : Bool) → next_of keys first second (take count taken) ≡ Some next → follows_last keys (last_in one other (take count taken) next.second) next ≡ true → count < length taken → take (suc count) taken ≡ take count taken ++ record next { faulty = mark } ∷ [] → list_all (λ x. may_follow keys x next) (take count taken) ≡ true → ((z : Taken) → Fits keys (Some z) false first → Fits keys (Some z) true second → may_follow keys z next ≡ true) → Reached keys first second one other taken count
  ended : next_of keys first second (take count taken) ≡ None → count ≡ length taken → is_cut taken ≡ false → Reached keys first second one other taken count
  stuck : (next : Taken) → next_of keys first second (take count taken) ≡ Some next → follows_last keys (last_in one other (take count taken) next.second) next ≡ false → count ≡ length taken → is_cut taken ≡ true → Reached keys first second one other taken count

fits_next : (keys : Keys) (last : Option Taken) (second : Bool) (bytes : List ℕ) (rest : List (List ℕ)) → Fits keys last second (bytes ∷ rest) → follows_last keys last (taken_of second bytes) ≡ true
fits_next keys None second bytes rest f = refl
fits_next keys (Some last) second bytes rest f = f

-- what may stand before a record may stand before the one that follows it
fits_chain : (keys : Keys) (z : Taken) (second : Bool) (bytes : List ℕ) (rest : List (List ℕ)) → may_follow keys z (taken_of second bytes) ≡ true → Fits keys (Some (taken_of second bytes)) second rest → Fits keys (Some z) second rest
fits_chain keys z second bytes [] e f = tt
fits_chain keys z second bytes (next ∷ more) e f = before_chain keys z (taken_of second bytes) (taken_of second next) e f

chosen_first : (keys : Keys) (bytes : List ℕ) (others : List (List ℕ)) → GoesFirst keys bytes others → chosen keys (Some bytes) (slice_get others 0) ≡ Some (taken_of false bytes)
chosen_first keys bytes [] g = refl
chosen_first keys bytes (other ∷ others) g = ap (λ b. cond b (Some (taken_of true other)) (Some (taken_of false bytes))) g

chosen_second : (keys : Keys) (bytes : List ℕ) (others : List (List ℕ)) → GoesSecond keys bytes others → chosen keys (slice_get others 0) (Some bytes) ≡ Some (taken_of true bytes)
chosen_second keys bytes [] g = refl
chosen_second keys bytes (other ∷ others) g = ap (λ b. cond b (Some (taken_of true bytes)) (Some (taken_of false other))) g

-- a record that is taken may stand before the next one of the other input
first_fits : (keys : Keys) (bytes : List ℕ) (others : List (List ℕ)) → GoesFirst keys bytes others → Fits keys (Some (taken_of false bytes)) true others
first_fits keys bytes [] g = tt
first_fits keys bytes (other ∷ others) g = ap not g

second_fits : (keys : Keys) (bytes : List ℕ) (others : List (List ℕ)) → GoesSecond keys bytes others → Fits keys (Some (taken_of true bytes)) false others
second_fits keys bytes [] g = tt
second_fits keys bytes (other ∷ others) g = by keys.strict
  where
    by : (b : Bool) → cond b (is_below (keys.key true bytes) (keys.key false other)) (not (is_below (keys.key false other) (keys.key true bytes))) ≡ true
    by true = g
    by false = ap not (not_below_back (keys.key true bytes) (keys.key false other) g)

start_first : (keys : Keys) (bytes : List ℕ) (rest others : List (List ℕ)) (one other : Option Taken) → GoesFirst keys bytes others → Fits keys one false (bytes ∷ rest) → Reached keys (bytes ∷ rest) others one other (both_taken keys (bytes ∷ rest) others) 0
start_first keys bytes rest others one other g f = by (begins_first keys bytes rest others g)
  where
    at : (mark : Bool) (behind : List Taken) → both_taken keys (bytes ∷ rest) others ≡ marked false bytes mark ∷ behind → Reached keys (bytes ∷ rest) others one other (both_taken keys (bytes ∷ rest) others) 0
    at mark behind e =
        subst (λ taken. Reached keys (bytes ∷ rest) others one other taken 0) (sym e)
        (goes_on (taken_of false bytes) mark (chosen_first keys bytes others g) (fits_next keys one false bytes rest f) (omega arith) refl refl (λ z zf zs. zf))

    by : Begins keys false bytes rest (both_taken keys (bytes ∷ rest) others) (both_taken keys rest others) → Reached keys (bytes ∷ rest) others one other (both_taken keys (bytes ∷ rest) others) 0
    by (in_order e h) = at false (both_taken keys rest others) e
    by (is_last next more r h e) = at true [] e

start_second : (keys : Keys) (bytes : List ℕ) (rest others : List (List ℕ)) (one other : Option Taken) → GoesSecond keys bytes others → Fits keys other true (bytes ∷ rest) → Reached keys others (bytes ∷ rest) one other (both_taken keys others (bytes ∷ rest)) 0
start_second keys bytes rest others one other g f = by (begins_second keys bytes rest others g)
  where
    at : (mark : Bool) (behind : List Taken) → both_taken keys others (bytes ∷ rest) ≡ marked true bytes mark ∷ behind → Reached keys others (bytes ∷ rest) one other (both_taken keys others (bytes ∷ rest)) 0
    at mark behind e =
        subst (λ taken. Reached keys others (bytes ∷ rest) one other taken 0) (sym e)
        (goes_on (taken_of true bytes) mark (chosen_second keys bytes others g) (fits_next keys other true bytes rest f) (omega arith) refl refl (λ z zf zs. zs))

    by : Begins keys true bytes rest (both_taken keys others (bytes ∷ rest)) (both_taken keys others rest) → Reached keys others (bytes ∷ rest) one other (both_taken keys others (bytes ∷ rest)) 0
    by (in_order e h) = at false (both_taken keys others rest) e
    by (is_last next more r h e) = at true [] e

shift_first : (keys : Keys) (bytes : List ℕ) (rest others : List (List ℕ)) (one other : Option Taken) (behind : List Taken) (count : ℕ) → GoesFirst keys bytes others → Fits keys (Some (taken_of false bytes)) false rest → Reached keys rest others (Some (taken_of false bytes)) other behind count → Reached keys (bytes ∷ rest) others one other (taken_of false bytes ∷ behind) (suc count)
shift_first keys bytes rest others one other behind count g f reached = by reached
  where
    same : (s : Bool) → last_in (Some (taken_of false bytes)) other (take count behind) s ≡ last_in one other (taken_of false bytes ∷ take count behind) s
    same true = refl
    same false = refl

    by : Reached keys rest others (Some (taken_of false bytes)) other behind count → Reached keys (bytes ∷ rest) others one other (taken_of false bytes ∷ behind) (suc count)
    by (goes_on next mark a b c d e h) =
        goes_on next mark a (ap (λ last. follows_last keys last next) (sym (same next.second)) ∙ b) (omega (arith, c)) (ap (λ zs. taken_of false bytes ∷ zs) d)
        (ap (λ b. b && list_all (λ x. may_follow keys x next) (take count behind)) (h (taken_of false bytes) f (first_fits keys bytes others g)) ∙ e)
        (λ z zf zs. h z (fits_chain keys z false bytes rest zf f) zs)
    by (ended a b c) = ended a (ap suc b) c
    by (stuck next a b c d) = stuck next a (ap (λ last. follows_last keys last next) (sym (same next.second)) ∙ b) (ap suc c) d

shift_second : (keys : Keys) (bytes : List ℕ) (rest others : List (List ℕ)) (one other : Option Taken) (behind : List Taken) (count : ℕ) → GoesSecond keys bytes others → Fits keys (Some (taken_of true bytes)) true rest → Reached keys others rest one (Some (taken_of true bytes)) behind count → Reached keys others (bytes ∷ rest) one other (taken_of true bytes ∷ behind) (suc count)
shift_second keys bytes rest others one other behind count g f reached = by reached
  where
    same : (s : Bool) → last_in one (Some (taken_of true bytes)) (take count behind) s ≡ last_in one other (taken_of true bytes ∷ take count behind) s
    same true = refl
    same false = refl

    by : Reached keys others rest one (Some (taken_of true bytes)) behind count → Reached keys others (bytes ∷ rest) one other (taken_of true bytes ∷ behind) (suc count)
    by (goes_on next mark a b c d e h) =
        goes_on next mark a (ap (λ last. follows_last keys last next) (sym (same next.second)) ∙ b) (omega (arith, c)) (ap (λ zs. taken_of true bytes ∷ zs) d)
        (ap (λ b. b && list_all (λ x. may_follow keys x next) (take count behind)) (h (taken_of true bytes) (second_fits keys bytes others g) f) ∙ e)
        (λ z zf zs. h z zf (fits_chain keys z true bytes rest zs f))
    by (ended a b c) = ended a (ap suc b) c
    by (stuck next a b c d) = stuck next a (ap (λ last. follows_last keys last next) (sym (same next.second)) ∙ b) (ap suc c) d

-- a record out of order is the next one, though nothing behind it is taken
stuck_first : (keys : Keys) (bytes next : List ℕ) (others : List (List ℕ)) → GoesFirst keys bytes others → may_follow keys (taken_of false bytes) (taken_of false next) ≡ false → GoesFirst keys next others
stuck_first keys bytes next [] g e = tt
stuck_first keys bytes next (other ∷ others) g e =
    not_below-not_below (keys.key false next) (keys.key false bytes) (keys.key true other) (out_of_order_is_low keys (taken_of false bytes) (taken_of false next) e) g

stuck_second : (keys : Keys) (bytes next : List ℕ) (others : List (List ℕ)) → GoesSecond keys bytes others → may_follow keys (taken_of true bytes) (taken_of true next) ≡ false → GoesSecond keys next others
stuck_second keys bytes next [] g e = tt
stuck_second keys bytes next (other ∷ others) g e =
    below-not_below (keys.key true next) (keys.key true bytes) (keys.key false other) (not-false (is_below (keys.key true next) (keys.key true bytes)) e) (not_below_back (keys.key true bytes) (keys.key false other) g)

go_first : (keys : Keys) (bytes : List ℕ) (rest others : List (List ℕ)) (one other : Option Taken) (count : ℕ) → GoesFirst keys bytes others → suc count ≤ length (both_taken keys (bytes ∷ rest) others) → (Fits keys (Some (taken_of false bytes)) false rest → count ≤ length (both_taken keys rest others) → Reached keys rest others (Some (taken_of false bytes)) other (both_taken keys rest others) count) → Reached keys (bytes ∷ rest) others one other (both_taken keys (bytes ∷ rest) others) (suc count)
go_first keys bytes rest others one other count g within behind = by (begins_first keys bytes rest others g)
  where
    by : Begins keys false bytes rest (both_taken keys (bytes ∷ rest) others) (both_taken keys rest others) → Reached keys (bytes ∷ rest) others one other (both_taken keys (bytes ∷ rest) others) (suc count)
    by (in_order e f) =
        subst (λ taken. Reached keys (bytes ∷ rest) others one other taken (suc count)) (sym e)
        (shift_first keys bytes rest others one other (both_taken keys rest others) count g f (behind f (omega (arith, ap length e))))
    by (is_last next more r f e) =
        let none : 0 ≡ count = omega (arith, ap length e) in
        let head : slice_get rest 0 ≡ Some next = ap (λ l. slice_get l 0) r in
        subst (λ taken. Reached keys (bytes ∷ rest) others one other taken (suc count)) (sym e)
        (subst (λ n. Reached keys (bytes ∷ rest) others one other (marked false bytes true ∷ []) (suc n)) none
        (stuck (taken_of false next) (ap (λ o. chosen keys o (slice_get others 0)) head ∙ chosen_first keys next others (stuck_first keys bytes next others g f)) f refl refl))

go_second : (keys : Keys) (bytes : List ℕ) (rest others : List (List ℕ)) (one other : Option Taken) (count : ℕ) → GoesSecond keys bytes others → suc count ≤ length (both_taken keys others (bytes ∷ rest)) → (Fits keys (Some (taken_of true bytes)) true rest → count ≤ length (both_taken keys others rest) → Reached keys others rest one (Some (taken_of true bytes)) (both_taken keys others rest) count) → Reached keys others (bytes ∷ rest) one other (both_taken keys others (bytes ∷ rest)) (suc count)
go_second keys bytes rest others one other count g within behind = by (begins_second keys bytes rest others g)
  where
    by : Begins keys true bytes rest (both_taken keys others (bytes ∷ rest)) (both_taken keys others rest) → Reached keys others (bytes ∷ rest) one other (both_taken keys others (bytes ∷ rest)) (suc count)
    by (in_order e f) =
        subst (λ taken. Reached keys others (bytes ∷ rest) one other taken (suc count)) (sym e)
        (shift_second keys bytes rest others one other (both_taken keys others rest) count g f (behind f (omega (arith, ap length e))))
    by (is_last next more r f e) =
        let none : 0 ≡ count = omega (arith, ap length e) in
        let head : slice_get rest 0 ≡ Some next = ap (λ l. slice_get l 0) r in
        subst (λ taken. Reached keys others (bytes ∷ rest) one other taken (suc count)) (sym e)
        (subst (λ n. Reached keys others (bytes ∷ rest) one other (marked true bytes true ∷ []) (suc n)) none
        (stuck (taken_of true next) (ap (λ o. chosen keys (slice_get others 0) o) head ∙ chosen_second keys next others (stuck_second keys bytes next others g f)) f refl refl))

walk : (keys : Keys) (count : ℕ) (first second : List (List ℕ)) (one other : Option Taken) → Fits keys one false first → Fits keys other true second → count ≤ length (both_taken keys first second) → Reached keys first second one other (both_taken keys first second) count
walk keys zero [] [] one other f s within = ended refl refl refl
walk keys zero (bytes ∷ rest) [] one other f s within = start_first keys bytes rest [] one other tt f
walk keys zero [] (bytes ∷ rest) one other f s within = start_second keys bytes rest [] one other tt s
walk keys zero (bytes ∷ rest) (next ∷ others) one other f s within = by (is_below (keys.key true next) (keys.key false bytes)) refl
  where
    by : (b : Bool) → is_below (keys.key true next) (keys.key false bytes) ≡ b → Reached keys (bytes ∷ rest) (next ∷ others) one other (both_taken keys (bytes ∷ rest) (next ∷ others)) 0
    by true e = start_second keys next others (bytes ∷ rest) one other e s
    by false e = start_first keys bytes rest (next ∷ others) one other e f
walk keys (suc count) [] [] one other f s within = absurd (omega arith)
walk keys (suc count) (bytes ∷ rest) [] one other f s within =
    go_first keys bytes rest [] one other count tt within (λ fits short. walk keys count rest [] (Some (taken_of false bytes)) other fits s short)
walk keys (suc count) [] (bytes ∷ rest) one other f s within =
    go_second keys bytes rest [] one other count tt within (λ fits short. walk keys count [] rest one (Some (taken_of true bytes)) f fits short)
walk keys (suc count) (bytes ∷ rest) (next ∷ others) one other f s within =
    by (is_below (keys.key true next) (keys.key false bytes)) refl
    (λ fits short. walk keys count rest (next ∷ others) (Some (taken_of false bytes)) other fits s short)
    (λ fits short. walk keys count (bytes ∷ rest) others one (Some (taken_of true next)) f fits short)
  where
    by : (b : Bool) → is_below (keys.key true next) (keys.key false bytes) ≡ b → (Fits keys (Some (taken_of false bytes)) false rest → count ≤ length (both_taken keys rest (next ∷ others)) → Reached keys rest (next ∷ others) (Some (taken_of false bytes)) other (both_taken keys rest (next ∷ others)) count) → (Fits keys (Some (taken_of true next)) true others → count ≤ length (both_taken keys (bytes ∷ rest) others) → Reached keys (bytes ∷ rest) others one (Some (taken_of true next)) (both_taken keys (bytes ∷ rest) others) count) → Reached keys (bytes ∷ rest) (next ∷ others) one other (both_taken keys (bytes ∷ rest) (next ∷ others)) (suc count)
    by true e behind_first behind_second = go_second keys next others (bytes ∷ rest) one other count e within behind_second
    by false e behind_first behind_second = go_first keys bytes rest (next ∷ others) one other count e within behind_first

taken_is : (keys : Keys) (first second : List (List ℕ)) → both_taken keys first second ≡ taken_from keys first second
unfolding taken_from
taken_is keys first second = sym (ap up_to_fault (sorted_prefixes keys (map (taken_of false) first) (map (taken_of true) second)))

-- behind so many of the records that are taken
pub reached : (keys : Keys) (first second : List (List ℕ)) (count : ℕ) → count ≤ length (taken_from keys first second) → Reached keys first second None None (taken_from keys first second) count
reached keys first second count within =
    subst (λ taken. Reached keys first second None None taken count) (taken_is keys first second)
    (walk keys count first second None None tt tt (subst (λ taken. count ≤ length taken) (sym (taken_is keys first second)) within))
