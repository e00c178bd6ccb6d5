-- Keys in order.
use Rattle.std.proofs.Common.{◌≡◌, ℕ, Bool, true, false, not, ◌&&◌, cond, nat_eq, List, refl, sym, ap, ◌∙◌}
use Rattle.std.specs.Cmp.{IsTotalOrder, alike_right, unsigned_ties}
use Rattle.std.specs.Cmp.Lexicographic.{slice_cmp, nat_list_cmp_total, pointwise, lists_ties}
use Rattle.std.specs.Ordering.{nat_cmp, is_lt, is_eq, ordering_reverse}
use Rattle.std.specs.declared.cmp.Ordering.{Ordering}
use Rattle.std.specs.declared.cmp.Ordering.TheVariants.{Less, Equal, Greater}
use Rattle.std.proofs.lemmas.Bool.{not-false, not-true}
use Rattle.ckr_match.specs.InputOrder.{Taken, Keys, is_below, key_of, stands_below, may_follow}

compare : List ℕ → List ℕ → Ordering
compare a b = slice_cmp nat_cmp a b

total : IsTotalOrder (slice_cmp nat_cmp)
total = nat_list_cmp_total

less : (r : Ordering) → is_lt r ≡ true → r ≡ Less
less Less e = refl
less Equal e = absurd (cc)
less Greater e = absurd (cc)

-- a below b, b not above c
pub below-not_below : (a b c : List ℕ) → is_below a b ≡ true → is_below c b ≡ false → is_below a c ≡ true
below-not_below a b c p q = by (slice_cmp nat_cmp c b) refl q
  where
    lt : slice_cmp nat_cmp a b ≡ Less
    lt = less (slice_cmp nat_cmp a b) p

    by : (r : Ordering) → slice_cmp nat_cmp c b ≡ r → is_lt r ≡ false → is_below a c ≡ true
    by Less e f = absurd (cc)
    by Equal e f = ap is_lt (alike_right total c b a e ∙ lt)
    by Greater e f = ap is_lt (total.trans a b c lt (total.antisymm b c ∙ ap ordering_reverse e))

-- a not above b, b below c
pub not_below-below : (a b c : List ℕ) → is_below b a ≡ false → is_below b c ≡ true → is_below a c ≡ true
not_below-below a b c p q = by (slice_cmp nat_cmp b a) refl p
  where
    lt : slice_cmp nat_cmp b c ≡ Less
    lt = less (slice_cmp nat_cmp b c) q

    by : (r : Ordering) → slice_cmp nat_cmp b a ≡ r → is_lt r ≡ false → is_below a c ≡ true
    by Less e f = absurd (cc)
    by Equal e f = ap is_lt (sym (total.congr b a c e) ∙ lt)
    by Greater e f = ap is_lt (total.trans a b c (total.antisymm a b ∙ ap ordering_reverse e) lt)

-- a not above b, b not above c
pub not_below-not_below : (a b c : List ℕ) → is_below b a ≡ false → is_below c b ≡ false → is_below c a ≡ false
not_below-not_below a b c p q = by (is_below c a) refl
  where
    by : (r : Bool) → is_below c a ≡ r → is_below c a ≡ false
    by false e = e
    by true e = absurd (let f = below-not_below c a b e p in let g : true ≡ false = sym f ∙ q in cc)

pub not_below_back : (a b : List ℕ) → is_below a b ≡ true → is_below b a ≡ false
not_below_back a b p = ap is_lt (total.antisymm b a ∙ ap ordering_reverse (less (slice_cmp nat_cmp a b) p))

pub below_is_other : (a b : List ℕ) → is_below a b ≡ true → pointwise nat_eq a b ≡ false
below_is_other a b p = lists_ties nat_cmp unsigned_ties a b ∙ ap is_eq (less (slice_cmp nat_cmp a b) p)

-- what may stand before a record isn't above it
pub before_is_low : (keys : Keys) (x y : Taken) → may_follow keys x y ≡ true → stands_below keys y x ≡ false
before_is_low keys x y p = by (not y.second && keys.strict) refl p
  where
    by : (b : Bool) → (not y.second && keys.strict) ≡ b → cond b (stands_below keys x y) (not (stands_below keys y x)) ≡ true → stands_below keys y x ≡ false
    by true e f = not_below_back (key_of keys x) (key_of keys y) f
    by false e f = not-true (stands_below keys y x) f

pub before_chain : (keys : Keys) (x y z : Taken) → may_follow keys x y ≡ true → may_follow keys y z ≡ true → may_follow keys x z ≡ true
before_chain keys x y z p q = by (not z.second && keys.strict) (before_is_low keys x y p) q
  where
    by : (b : Bool) → stands_below keys y x ≡ false → cond b (stands_below keys y z) (not (stands_below keys z y)) ≡ true → cond b (stands_below keys x z) (not (stands_below keys z x)) ≡ true
    by true low f = not_below-below (key_of keys x) (key_of keys y) (key_of keys z) low f
    by false low f = ap not (not_below-not_below (key_of keys x) (key_of keys y) (key_of keys z) low (not-true (stands_below keys z y) f))

-- a record out of order isn't above the one before it
pub out_of_order_is_low : (keys : Keys) (x y : Taken) → may_follow keys x y ≡ false → stands_below keys x y ≡ false
out_of_order_is_low keys x y p = by (not y.second && keys.strict) refl p
  where
    by : (b : Bool) → (not y.second && keys.strict) ≡ b → cond b (stands_below keys x y) (not (stands_below keys y x)) ≡ false → stands_below keys x y ≡ false
    by true e f = f
    by false e f = not_below_back (key_of keys y) (key_of keys x) (not-false (stands_below keys y x) f)
