-- General facts of Bool. What std has is taken from there: and_from, and_parts, or_left, or_right, or_from, or_parts, not-true, not-false (`std.proofs.lemmas.Bool`).
-- true-not-false         true ≡ false gives anything
-- false-not-true         false ≡ true gives anything
-- bool-cases             by a test, with its equation
-- bool-same              tests that give each other are equal
-- and-first              a && b gives a
-- and-second             a && b gives b
-- and-false              b && false is false
-- and-true               b && true is b
-- and-assoc              a && (b && c) is (a && b) && c
-- or-cases               by the side of a || b that is true
-- or-not-first           a || b, where a is not, gives b
-- or-false               b || false is b
-- or-true                b || true is true
-- or-assoc               a || b || c is a || (b || c)
-- or-first-false         where a || b is false, a is
-- or-second-false        where a || b is false, b is
-- or-turned              a || b gives b || a
-- if-then                not a || b, where a is, gives b
-- T-and-first            T (a && b) gives T a
-- T-and-second           T (a && b) gives T b
-- T-from-true            b ≡ true gives T b
use Rattle.std.proofs.Common.{Bool, IsTrue, T, false, not, refl, subst, sym, true, true≢false, ◌&&◌, ◌||◌, ◌≡◌}
use Rattle.std.proofs.lemmas.Bool.{false≢true}

pub true-not-false : {A : Type 0} → true ≡ false → A
true-not-false e = cc

pub false-not-true : {A : Type 0} → false ≡ true → A
false-not-true e = cc

-- a case of a test with its equation
pub bool-cases : {A : Type 0} (b : Bool) → (b ≡ true → A) → (b ≡ false → A) → A
bool-cases true does isnt = does refl
bool-cases false does isnt = isnt refl

pub bool-same : (a b : Bool) → (a ≡ true → b ≡ true) → (b ≡ true → a ≡ true) → a ≡ b
bool-same true b f g = sym (f refl)
bool-same false true f g = g refl
bool-same false false f g = refl

pub and-first : (a b : Bool) → (a && b) ≡ true → a ≡ true
and-first true b e = refl
and-first false b e = false-not-true e

pub and-second : (a b : Bool) → (a && b) ≡ true → b ≡ true
and-second true b e = e
and-second false b e = false-not-true e

pub and-false : (b : Bool) → (b && false) ≡ false
and-false true = refl
and-false false = refl

pub and-true : (b : Bool) → (b && true) ≡ b
and-true true = refl
and-true false = refl

pub and-assoc : (a b c : Bool) → (a && (b && c)) ≡ ((a && b) && c)
and-assoc true b c = refl
and-assoc false b c = refl

pub or-cases : {A : Type 0} (a b : Bool) → (a || b) ≡ true → (a ≡ true → A) → (b ≡ true → A) → A
or-cases true b e one other = one refl
or-cases false b e one other = other e

pub or-not-first : (a b : Bool) → (a || b) ≡ true → (a ≡ true → ⊥) → b ≡ true
or-not-first true b e isnt = absurd (isnt refl)
or-not-first false b e isnt = e

pub or-false : (b : Bool) → (b || false) ≡ b
or-false true = refl
or-false false = refl

pub or-true : (b : Bool) → (b || true) ≡ true
or-true true = refl
or-true false = refl

pub or-assoc : (a b c : Bool) → (a || b || c) ≡ (a || (b || c))
or-assoc true b c = refl
or-assoc false b c = refl

pub or-first-false : (a b : Bool) → (a || b) ≡ false → a ≡ false
or-first-false true b e = e
or-first-false false b e = refl

pub or-second-false : (a b : Bool) → (a || b) ≡ false → b ≡ false
or-second-false true b e = absurd (true≢false e)
or-second-false false b e = e

pub if-then : (a b : Bool) → (not a || b) ≡ true → a ≡ true → b ≡ true
if-then true b e is = e
if-then false b e is = absurd (false≢true is)

pub T-and-first : (a b : Bool) → T (a && b) → T a
T-and-first true b p = tt
T-and-first false b p = p

pub T-and-second : (a b : Bool) → T (a && b) → T b
T-and-second true b p = p
T-and-second false b p = absurd p

pub T-from-true : (b : Bool) → IsTrue b → T b
T-from-true b e = subst T (sym e) tt

pub or-turned : (a b : Bool) → (a || b) ≡ true → (b || a) ≡ true
or-turned true true e = refl
or-turned true false e = refl
or-turned false true e = refl
or-turned false false e = e
