-- Spans in their order: what a search by halving finds, and what filing and unfiling do.
use Rattle.std.proofs.Common.{◌≡◌, ℕ, zero, suc, ◌+◌, ◌-◌, ◌<◌, ◌≤◌, Bool, true, false, not, cond, IsTrue, List, [], ◌∷◌, ◌++◌, length, take, drop, filter, flat_map, refl, ap, sym, ◌∙◌, subst, arith, add-one, slice_index_or, insert, remove}
use Rattle.std.specs.List.Sorted.{IsPartitionedBy}
use Rattle.std.specs.Ordering.{is_eq}
use Rattle.std.proofs.lemmas.Bool.Decides.{nat_tests}
use Rattle.std.proofs.lemmas.Grind.{common_steps}
use Rattle.std.proofs.lemmas.Bool.{and_from, not-true}
use Rattle.ckr_base.proofs.Bools.{and-first, and-second, true-not-false}
use Rattle.ckr_library.specs.declared.spread.Span.{Span}
use Rattle.ckr_library.specs.Fronts.{begins_before}
use Rattle.ckr_library.specs.Places.{lead}
use Rattle.ckr_library.specs.Spread.{span_cmp, is_before, filed, filed_all, unfiled, unfiled_all, is_on, is_below, is_at_most, is_first, rises}

-- one span before another leaves the other not before it
pub one_way : (a b : Span) → is_before a b ≡ true → is_before b a ≡ false
one_way a b e = grind (arith, nat_tests)

-- a span that isn't after the first of two, one before the other, stands before the second
pub across : (a b c : Span) → is_before a b ≡ true → is_before a c ≡ false → is_before c b ≡ true
across a b c e f = grind (arith, nat_tests)

-- spans of which neither is before the other are the same
pub tied : (a b : Span) → is_before a b ≡ false → is_before b a ≡ false → a ≡ b
tied a b e f = grind (arith, nat_tests)

-- a span isn't before itself
pub before_itself : (a : Span) → is_before a a ≡ false
before_itself a = grind (arith, nat_tests)

same_itself : (a : Span) → is_eq (span_cmp a a) ≡ true
same_itself a = grind (arith, nat_tests)

pub true_not : (a : Bool) → a ≡ false → IsTrue (not a)
true_not a e = ap not e

-- the spans behind a first one aren't before it
first_at : (span : Span) (spans : List Span) → IsTrue (is_first span spans) → (j : ℕ) (d : Span) → j < length spans → is_before (slice_index_or spans j d) span ≡ false
first_at span [] first j d inside = absurd (omega (arith, inside))
first_at span (other ∷ others) first zero d inside = not-true _ (and-first _ _ first)
first_at span (other ∷ others) first (suc j) d inside = first_at span others (and-second _ _ first) j d (omega (arith, inside))

-- the spans before a span stand in front of the others
pub parted_before : (spans : List Span) → IsTrue (rises spans) → (span : Span) → IsPartitionedBy (λ other. is_before other span) spans
parted_before [] rise span i j d le inside before = absurd (omega (arith, inside))
parted_before (other ∷ others) rise span zero zero d le inside before = before
parted_before (other ∷ others) rise span zero (suc j) d le inside before =
    across (slice_index_or others j d) span other before (first_at other others (and-first _ _ rise) j d (omega (arith, inside)))
parted_before (other ∷ others) rise span (suc i) zero d le inside before = absurd (omega (arith, le))
parted_before (other ∷ others) rise span (suc i) (suc j) d le inside before =
    parted_before others (and-second _ _ rise) span i j d (omega (arith, le)) (omega (arith, inside)) before

-- to file a span is to insert it behind the spans before it
pub filed-insert : (span : Span) (spans : List Span) → insert spans (lead (λ other. is_before other span) spans) span ≡ filed span spans
filed-insert span [] = refl
filed-insert span (other ∷ others) =
    elim (is_before other span) as
    (λ b. insert (other ∷ others) (cond b (suc (lead (λ o. is_before o span) others)) 0) span ≡ cond b (other ∷ filed span others) (span ∷ other ∷ others)) [
      | true ↦ ap (λ rest. other ∷ rest) (filed-insert span others)
      | false ↦ refl
    ]

-- what is behind a first span is behind one that it isn't before
first_down : (span other : Span) (spans : List Span) → is_before other span ≡ false → IsTrue (is_first other spans) → IsTrue (is_first span spans)
first_down span other [] behind first = refl
first_down span other (next ∷ spans) behind first =
    let before_next : is_before next span ≡ false = not_before (is_before next span) refl in
    and_from _ _ (true_not _ before_next) (first_down span other spans behind (and-second _ _ first))
  where
    not_before : (b : Bool) → is_before next span ≡ b → b ≡ false
    not_before true e = true-not-false (sym (across next span other e (not-true _ (and-first _ _ first))) ∙ behind)
    not_before false e = refl

first-filed : (other span : Span) (spans : List Span) → is_before span other ≡ false → IsTrue (is_first other spans) → IsTrue (is_first other (filed span spans))
first-filed other span [] behind first = and_from _ _ (true_not _ behind) refl
first-filed other span (next ∷ spans) behind first =
    elim (is_before next span) as (λ b. IsTrue (is_first other (cond b (next ∷ filed span spans) (span ∷ next ∷ spans)))) [
      | true ↦ and_from _ _ (and-first _ _ first) (first-filed other span spans behind (and-second _ _ first))
      | false ↦ and_from _ _ (true_not _ behind) first
    ]

-- spans in order stay so
pub rises-filed : (span : Span) (spans : List Span) → IsTrue (rises spans) → IsTrue (rises (filed span spans))
rises-filed span [] rise = refl
rises-filed span (other ∷ others) rise =
    elim (is_before other span) as (λ b. is_before other span ≡ b → IsTrue (rises (cond b (other ∷ filed span others) (span ∷ other ∷ others)))) [
      | true ↦ λ e. and_from _ _ (first-filed other span others (one_way other span e) (and-first _ _ rise)) (rises-filed span others (and-second _ _ rise))
      | false ↦ λ e. and_from _ _ (and_from _ _ (true_not _ e) (first_down span other others e (and-first _ _ rise))) rise
    ] refl

first-unfiled : (other span : Span) (spans : List Span) → IsTrue (is_first other spans) → IsTrue (is_first other (unfiled span spans))
first-unfiled other span [] first = refl
first-unfiled other span (next ∷ spans) first =
    elim (is_before next span) as (λ b. IsTrue (is_first other (cond b (next ∷ unfiled span spans) (cond (is_eq (span_cmp next span)) spans (next ∷ spans))))) [
      | true ↦ and_from _ _ (and-first _ _ first) (first-unfiled other span spans (and-second _ _ first))
      | false ↦ elim (is_eq (span_cmp next span)) as (λ b. IsTrue (is_first other (cond b spans (next ∷ spans)))) [
        | true ↦ and-second _ _ first
        | false ↦ first
      ]
    ]

pub rises-unfiled : (span : Span) (spans : List Span) → IsTrue (rises spans) → IsTrue (rises (unfiled span spans))
rises-unfiled span [] rise = refl
rises-unfiled span (other ∷ others) rise =
    elim (is_before other span) as (λ b. IsTrue (rises (cond b (other ∷ unfiled span others) (cond (is_eq (span_cmp other span)) others (other ∷ others))))) [
      | true ↦ and_from _ _ (first-unfiled other span others (and-first _ _ rise)) (rises-unfiled span others (and-second _ _ rise))
      | false ↦ elim (is_eq (span_cmp other span)) as (λ b. IsTrue (rises (cond b others (other ∷ others)))) [
        | true ↦ and-second _ _ rise
        | false ↦ rise
      ]
    ]

-- to unfile a span is to take out the span at its place, if it is the same
pub unfiled-remove : (span found : Span) (spans : List Span) → let place = lead (λ other. is_before other span) spans in place < length spans → found ≡ slice_index_or spans place found → is_eq (span_cmp found span) ≡ true → remove spans place ≡ unfiled span spans
unfiled-remove span found [] inside is same = absurd (omega (arith, inside))
unfiled-remove span found (other ∷ others) inside is same =
    elim (is_before other span) as
    (λ b. let place = cond b (suc (lead (λ o. is_before o span) others)) 0 in place < length (other ∷ others) → found ≡ slice_index_or (other ∷ others) place found →
    remove (other ∷ others) place ≡ cond b (other ∷ unfiled span others) (cond (is_eq (span_cmp other span)) others (other ∷ others))) [
      | true ↦ λ inside is. ap (λ rest. other ∷ rest) (unfiled-remove span found others (omega (arith, inside)) is same)
      | false ↦ λ inside is. ap (λ b. cond b others (other ∷ others)) (sym (ap (λ s. is_eq (span_cmp s span)) (sym is) ∙ same))
    ] inside is

pub unfiled-other : (span found : Span) (spans : List Span) → let place = lead (λ other. is_before other span) spans in place < length spans → found ≡ slice_index_or spans place found → is_eq (span_cmp found span) ≡ false → spans ≡ unfiled span spans
unfiled-other span found [] inside is same = refl
unfiled-other span found (other ∷ others) inside is same =
    elim (is_before other span) as
    (λ b. let place = cond b (suc (lead (λ o. is_before o span) others)) 0 in place < length (other ∷ others) → found ≡ slice_index_or (other ∷ others) place found →
    other ∷ others ≡ cond b (other ∷ unfiled span others) (cond (is_eq (span_cmp other span)) others (other ∷ others))) [
      | true ↦ λ inside is. ap (λ rest. other ∷ rest) (unfiled-other span found others (omega (arith, inside)) is same)
      | false ↦ λ inside is. ap (λ b. cond b others (other ∷ others)) (sym (ap (λ s. is_eq (span_cmp s span)) (sym is) ∙ same))
    ] inside is

pub unfiled-none : (span : Span) (spans : List Span) → length spans ≤ lead (λ other. is_before other span) spans → spans ≡ unfiled span spans
unfiled-none span [] past = refl
unfiled-none span (other ∷ others) past =
    elim (is_before other span) as
    (λ b. length (other ∷ others) ≤ cond b (suc (lead (λ o. is_before o span) others)) 0 → other ∷ others ≡ cond b (other ∷ unfiled span others) (cond (is_eq (span_cmp other span)) others (other ∷ others))) [
      | true ↦ λ past. ap (λ rest. other ∷ rest) (unfiled-none span others (omega (arith, past)))
      | false ↦ λ past. absurd (omega (arith, past))
    ] past

-- two spans at one place: the lower one stands in front
two_first : (a b : Span) (rest : List Span) → cond (is_before b a) (b ∷ a ∷ rest) (a ∷ b ∷ rest) ≡ cond (is_before a b) (a ∷ b ∷ rest) (b ∷ a ∷ rest)
two_first a b rest = by (is_before b a) (is_before a b) refl refl
  where
    by : (p q : Bool) → is_before b a ≡ p → is_before a b ≡ q → cond p (b ∷ a ∷ rest) (a ∷ b ∷ rest) ≡ cond q (a ∷ b ∷ rest) (b ∷ a ∷ rest)
    by true true e f = true-not-false (sym f ∙ one_way b a e)
    by true false e f = refl
    by false true e f = refl
    by false false e f = λ i. tied a b f e i ∷ sym (tied a b f e) i ∷ rest

-- two spans are filed in either order
pub filed-filed : (a b : Span) (spans : List Span) → filed a (filed b spans) ≡ filed b (filed a spans)
filed-filed a b [] = two_first a b []
filed-filed a b (x ∷ xs) = by (filed-filed a b xs) (is_before x a) (is_before x b) refl refl
  where
    by : filed a (filed b xs) ≡ filed b (filed a xs) → (p q : Bool) → is_before x a ≡ p → is_before x b ≡ q → filed a (cond q (x ∷ filed b xs) (b ∷ x ∷ xs)) ≡ filed b (cond p (x ∷ filed a xs) (a ∷ x ∷ xs))
    by rest true true e f = ap (λ t. cond t (x ∷ filed a (filed b xs)) (a ∷ x ∷ filed b xs)) e ∙ ap (λ r. x ∷ r) rest ∙ sym (ap (λ t. cond t (x ∷ filed b (filed a xs)) (b ∷ x ∷ filed a xs)) f)
    by rest true false e f =
        ap (λ t. cond t (b ∷ filed a (x ∷ xs)) (a ∷ b ∷ x ∷ xs)) (across x a b e f) ∙ ap (λ t. b ∷ cond t (x ∷ filed a xs) (a ∷ x ∷ xs)) e
        ∙ sym (ap (λ t. cond t (x ∷ filed b (filed a xs)) (b ∷ x ∷ filed a xs)) f)
    by rest false true e f =
        ap (λ t. cond t (x ∷ filed a (filed b xs)) (a ∷ x ∷ filed b xs)) e
        ∙ sym (ap (λ t. cond t (a ∷ filed b (x ∷ xs)) (b ∷ a ∷ x ∷ xs)) (across x b a f e) ∙ ap (λ t. a ∷ cond t (x ∷ filed b xs) (b ∷ x ∷ xs)) f)
    by rest false false e f =
        ap (λ t. cond (is_before b a) (b ∷ cond t (x ∷ filed a xs) (a ∷ x ∷ xs)) (a ∷ b ∷ x ∷ xs)) e ∙ two_first a b (x ∷ xs)
        ∙ sym (ap (λ t. cond (is_before a b) (a ∷ cond t (x ∷ filed b xs) (b ∷ x ∷ xs)) (b ∷ a ∷ x ∷ xs)) f)

pub filed_all-filed : (spans : List Span) (span : Span) (filing : List Span) → filed_all spans (filed span filing) ≡ filed span (filed_all spans filing)
filed_all-filed [] span filing = refl
filed_all-filed (first ∷ spans) span filing = ap (filed_all spans) (filed-filed first span filing) ∙ filed_all-filed spans span (filed first filing)

pub filed_all-filed_all : (spans others filing : List Span) → filed_all spans (filed_all others filing) ≡ filed_all others (filed_all spans filing)
filed_all-filed_all [] others filing = refl
filed_all-filed_all (span ∷ spans) others filing = ap (filed_all spans) (sym (filed_all-filed others span filing)) ∙ filed_all-filed_all spans others (filed span filing)

-- a span that is filed and unfiled leaves the list as it was
pub unfiled-filed : (span : Span) (filing : List Span) → unfiled span (filed span filing) ≡ filing
unfiled-filed span [] = at_front span []
  where
    at_front : (span : Span) (rest : List Span) → unfiled span (span ∷ rest) ≡ rest
    at_front span rest = ap (λ b. cond b (span ∷ unfiled span rest) (cond (is_eq (span_cmp span span)) rest (span ∷ rest))) (before_itself span) ∙ ap (λ b. cond b rest (span ∷ rest)) (same_itself span)
unfiled-filed span (first ∷ rest) =
    elim (is_before first span) as (λ b. is_before first span ≡ b → unfiled span (cond b (first ∷ filed span rest) (span ∷ first ∷ rest)) ≡ first ∷ rest) [
      | true ↦ λ e. ap (λ b. cond b (first ∷ unfiled span (filed span rest)) (cond (is_eq (span_cmp first span)) (filed span rest) (first ∷ filed span rest))) e ∙ ap (λ r. first ∷ r) (unfiled-filed span rest)
      | false ↦ λ e. ap (λ b. cond b (span ∷ unfiled span (first ∷ rest)) (cond (is_eq (span_cmp span span)) (first ∷ rest) (span ∷ first ∷ rest))) (before_itself span) ∙ ap (λ b. cond b (first ∷ rest) (span ∷ first ∷ rest)) (same_itself span)
    ] refl

pub unfiled_all-filed_all : (spans filing : List Span) → unfiled_all spans (filed_all spans filing) ≡ filing
unfiled_all-filed_all [] filing = refl
unfiled_all-filed_all (span ∷ spans) filing =
    ap (λ f. unfiled_all spans (unfiled span f)) (filed_all-filed spans span filing) ∙ ap (unfiled_all spans) (unfiled-filed span (filed_all spans filing)) ∙ unfiled_all-filed_all spans filing

-- spans of two lists, one list after the other
pub filed_all-append : (spans others filing : List Span) → filed_all (spans ++ others) filing ≡ filed_all others (filed_all spans filing)
filed_all-append [] others filing = refl
filed_all-append (span ∷ spans) others filing = filed_all-append spans others (filed span filing)

pub unfiled_all-append : (spans others filing : List Span) → unfiled_all (spans ++ others) filing ≡ unfiled_all others (unfiled_all spans filing)
unfiled_all-append [] others filing = refl
unfiled_all-append (span ∷ spans) others filing = unfiled_all-append spans others (unfiled span filing)

-- volumes rise with the spans
pub volumes_rise : (one other : Span) → is_before other one ≡ false → one.volume ≤ other.volume
volumes_rise one other e = grind (arith, nat_tests)

below_by : (volume : ℕ) (one other : Span) → one.volume ≤ other.volume → is_below volume other ≡ true → is_below volume one ≡ true
below_by volume one other le e = grind (arith, nat_tests)

at_most_by : (volume : ℕ) (one other : Span) → one.volume ≤ other.volume → is_at_most volume other ≡ true → is_at_most volume one ≡ true
at_most_by volume one other le e = grind (arith, nat_tests)

module _ (p : Span → Bool) (falls : (one other : Span) → is_before other one ≡ false → p other ≡ true → p one ≡ true) where
  -- what holds of a span holds of those before it
  pub parted-by : (spans : List Span) → IsTrue (rises spans) → IsPartitionedBy p spans
  parted-by [] rise i j d le inside holds = absurd (omega (arith, inside))
  parted-by (first ∷ rest) rise zero zero d le inside holds = holds
  parted-by (first ∷ rest) rise zero (suc j) d le inside holds =
      falls first (slice_index_or rest j d) (first_at first rest (and-first _ _ rise) j d (omega (arith, inside))) holds
  parted-by (first ∷ rest) rise (suc i) zero d le inside holds = absurd (omega (arith, le))
  parted-by (first ∷ rest) rise (suc i) (suc j) d le inside holds = parted-by rest (and-second _ _ rise) i j d (omega (arith, le)) (omega (arith, inside)) holds

pub parted_below : (volume : ℕ) (spans : List Span) → IsTrue (rises spans) → IsPartitionedBy (is_below volume) spans
parted_below volume = parted-by (is_below volume) (λ one other e. below_by volume one other (volumes_rise one other e))

pub parted_at_most : (volume : ℕ) (spans : List Span) → IsTrue (rises spans) → IsPartitionedBy (is_at_most volume) spans
parted_at_most volume = parted-by (is_at_most volume) (λ one other e. at_most_by volume one other (volumes_rise one other e))

begins_back : (volume end : ℕ) (one other : Span) → is_before other one ≡ false → begins_before volume end other ≡ true → begins_before volume end one ≡ true
begins_back volume end one other e f = grind (arith, nat_tests)

pub parted_begins : (volume end : ℕ) (spans : List Span) → IsTrue (rises spans) → IsPartitionedBy (begins_before volume end) spans
parted_begins volume end = parted-by (begins_before volume end) (begins_back volume end)

-- behind a span of the volume or of a higher one, none is below
none_below : (volume : ℕ) (first : Span) (spans : List Span) → volume ≤ first.volume → IsTrue (is_first first spans) → lead (is_below volume) spans ≡ 0
none_below volume first [] le e = refl
none_below volume first (next ∷ spans) le e =
    let above : is_below volume next ≡ false = grind (arith, nat_tests, volumes_rise first next (not-true _ (and-first _ _ e))) in
    ap (λ b. cond b (suc (lead (is_below volume) spans)) 0) above

-- behind a span of a higher volume, none is of the volume
pub none_on : (volume : ℕ) (first : Span) (spans : List Span) → volume < first.volume → IsTrue (is_first first spans) → filter (is_on volume) spans ≡ []
none_on volume first [] le e = refl
none_on volume first (next ∷ spans) le e =
    let past : is_on volume next ≡ false = grind (arith, nat_tests, volumes_rise first next (not-true _ (and-first _ _ e))) in
    ap (λ b. cond b (next ∷ filter (is_on volume) spans) (filter (is_on volume) spans)) past ∙ none_on volume first spans le (and-second _ _ e)

take_none : (n : ℕ) (spans : List Span) → n ≡ 0 → take n spans ≡ []
take_none n spans e = ap (λ k. take k spans) e

pub below-le-at_most : (volume : ℕ) (spans : List Span) → lead (is_below volume) spans ≤ lead (is_at_most volume) spans
below-le-at_most volume [] = omega arith
below-le-at_most volume (first ∷ rest) =
    elim (is_below volume first) as (λ b. is_below volume first ≡ b → cond b (suc (lead (is_below volume) rest)) 0 ≤ cond (is_at_most volume first) (suc (lead (is_at_most volume) rest)) 0) [
      | true ↦ λ e. let at_most : is_at_most volume first ≡ true = grind (arith, nat_tests, e) in
          rw at_most (omega (arith, below-le-at_most volume rest))
      | false ↦ λ e. omega arith
    ] refl

-- the spans between the two places are those of the volume
pub spans_between : (volume : ℕ) (spans : List Span) → IsTrue (rises spans) → (from to : ℕ) → from ≡ lead (is_below volume) spans → to ≡ lead (is_at_most volume) spans → take (to - from) (drop from spans) ≡ filter (is_on volume) spans
spans_between volume [] rise from to e f = grind (arith, common_steps)
spans_between volume (first ∷ rest) rise from to e f =
    by (spans_between volume rest (and-second _ _ rise) (lead (is_below volume) rest) (lead (is_at_most volume) rest) refl refl) (is_below volume first) (is_at_most volume first) (is_on volume first) refl refl refl
  where
    by : take (lead (is_at_most volume) rest - lead (is_below volume) rest) (drop (lead (is_below volume) rest) rest) ≡ filter (is_on volume) rest → (p q r : Bool) → is_below volume first ≡ p → is_at_most volume first ≡ q → is_on volume first ≡ r → take (to - from) (drop from (first ∷ rest)) ≡ cond r (first ∷ filter (is_on volume) rest) (filter (is_on volume) rest)
    by later true true true g h i = true-not-false (sym (grind (arith, nat_tests, g, i)))
    by later true true false g h i =
        (λ j. let to_is : to ≡ suc (lead (is_at_most volume) rest) = f ∙ ap (λ b. cond b (suc (lead (is_at_most volume) rest)) 0) h in
        let from_is : from ≡ suc (lead (is_below volume) rest) = e ∙ ap (λ b. cond b (suc (lead (is_below volume) rest)) 0) g in
        take (to_is j - from_is j) (drop (from_is j) (first ∷ rest)))
        ∙ (let step : suc (lead (is_at_most volume) rest) - suc (lead (is_below volume) rest) ≡ lead (is_at_most volume) rest - lead (is_below volume) rest = omega arith in
        ap (λ n. take n (drop (lead (is_below volume) rest) rest)) step) ∙ later
    by later true false r g h i = true-not-false (sym (grind (arith, nat_tests, g, h)))
    by later false true true g h i =
        (λ j. let to_is : to ≡ suc (lead (is_at_most volume) rest) = f ∙ ap (λ b. cond b (suc (lead (is_at_most volume) rest)) 0) h in
        let from_is : from ≡ 0 = e ∙ ap (λ b. cond b (suc (lead (is_below volume) rest)) 0) g in
        take (to_is j - from_is j) (drop (from_is j) (first ∷ rest)))
        ∙ (let step : suc (lead (is_at_most volume) rest) - 0 ≡ suc (lead (is_at_most volume) rest) = omega arith in
        ap (λ n. take n (first ∷ rest)) step)
        ∙ ap (λ r. first ∷ r) (
        let none : lead (is_below volume) rest ≡ 0 = none_below volume first rest (grind (arith, nat_tests, i)) (and-first _ _ rise) in
        let less : lead (is_at_most volume) rest ≡ lead (is_at_most volume) rest - 0 = omega arith in
        ap (λ n. take n rest) less ∙ sym (ap (λ n. take (lead (is_at_most volume) rest - n) (drop n rest)) none) ∙ later)
    by later false true false g h i = true-not-false (sym (grind (arith, nat_tests, g, h, i)))
    by later false false true g h i = true-not-false (sym (grind (arith, nat_tests, h, i)))
    by later false false false g h i =
        (λ j. let to_is : to ≡ 0 = f ∙ ap (λ b. cond b (suc (lead (is_at_most volume) rest)) 0) h in
        let from_is : from ≡ 0 = e ∙ ap (λ b. cond b (suc (lead (is_below volume) rest)) 0) g in
        take (to_is j - from_is j) (drop (from_is j) (first ∷ rest)))
        ∙ take_none (0 - 0) (first ∷ rest) (omega arith) ∙ sym (none_on volume first rest (grind (arith, nat_tests, h)) (and-first _ _ rise))

-- a list that is worked off item by item: what is left from a place on
module _ {A : Type 0} (spans : A → List Span) where
  each_next : (items : List A) (k : ℕ) (d : A) → k < length items → flat_map spans (drop k items) ≡ spans (slice_index_or items k d) ++ flat_map spans (drop (suc k) items)
  each_next [] k d inside = absurd (omega (arith, inside))
  each_next (item ∷ items) zero d inside = refl
  each_next (item ∷ items) (suc k) d inside = each_next items k d (omega (arith, inside))

  pub each-next : (items : List A) (k : ℕ) (d : A) → k < length items → flat_map spans (drop k items) ≡ spans (slice_index_or items k d) ++ flat_map spans (drop (k + 1) items)
  each-next items k d inside = each_next items k d inside ∙ ap (λ n. spans (slice_index_or items k d) ++ flat_map spans (drop n items)) (sym (add-one k))

  pub each-end : (items : List A) (k : ℕ) → length items ≤ k → flat_map spans (drop k items) ≡ []
  each-end [] zero past = refl
  each-end [] (suc k) past = refl
  each-end (item ∷ items) zero past = absurd (omega (arith, past))
  each-end (item ∷ items) (suc k) past = each-end items k (omega (arith, past))

  -- one step of filing or unfiling item by item
  pub filed-next : (items : List A) (k : ℕ) (d : A) → k < length items → (filing : List Span) → filed_all (flat_map spans (drop k items)) filing ≡ filed_all (flat_map spans (drop (k + 1) items)) (filed_all (spans (slice_index_or items k d)) filing)
  filed-next items k d inside filing = ap (λ s. filed_all s filing) (each-next items k d inside) ∙ filed_all-append (spans (slice_index_or items k d)) (flat_map spans (drop (k + 1) items)) filing

  pub unfiled-next : (items : List A) (k : ℕ) (d : A) → k < length items → (filing : List Span) → unfiled_all (flat_map spans (drop k items)) filing ≡ unfiled_all (flat_map spans (drop (k + 1) items)) (unfiled_all (spans (slice_index_or items k d)) filing)
  unfiled-next items k d inside filing = ap (λ s. unfiled_all s filing) (each-next items k d inside) ∙ unfiled_all-append (spans (slice_index_or items k d)) (flat_map spans (drop (k + 1) items)) filing

  pub filed-end : (items : List A) (k : ℕ) → length items ≤ k → (filing : List Span) → filed_all (flat_map spans (drop k items)) filing ≡ filing
  filed-end items k past filing = ap (λ s. filed_all s filing) (each-end items k past)

  pub unfiled-end : (items : List A) (k : ℕ) → length items ≤ k → (filing : List Span) → unfiled_all (flat_map spans (drop k items)) filing ≡ filing
  unfiled-end items k past filing = ap (λ s. unfiled_all s filing) (each-end items k past)

-- what is found at the place of a span tells what unfiling does
module _ (span found : Span) (spans : List Span) (place : ℕ) (at : place ≡ lead (λ other. is_before other span) spans) where
  pub unfiled_there : place < length spans → found ≡ slice_index_or spans place found → is_eq (span_cmp found span) ≡ true → unfiled span spans ≡ remove spans place
  unfiled_there inside is same =
      sym (ap (remove spans) at ∙ unfiled-remove span found spans (subst (λ n. n < length spans) at inside) (is ∙ ap (λ n. slice_index_or spans n found) at) same)

  pub unfiled_not : place < length spans → found ≡ slice_index_or spans place found → is_eq (span_cmp found span) ≡ false → unfiled span spans ≡ spans
  unfiled_not inside is other =
      sym (unfiled-other span found spans (subst (λ n. n < length spans) at inside) (is ∙ ap (λ n. slice_index_or spans n found) at) other)

  pub unfiled_past : length spans ≤ place → unfiled span spans ≡ spans
  unfiled_past past = sym (unfiled-none span spans (subst (λ n. length spans ≤ n) at past))
