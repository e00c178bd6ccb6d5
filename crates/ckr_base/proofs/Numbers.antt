-- General facts of numbers and of their tests.
-- equal-itself           n == n
-- equal-true             a == b gives a ≡ b
-- equal-false            where a == b is false, a ≢ b
-- number-cases           by whether two numbers are equal
-- nat_le-true            nat_le a b gives a ≤ b
-- nat_le-from            a ≤ b gives nat_le a b
-- nat_le-beyond          b < a: nat_le a b is false
-- nat_lt-true            nat_lt a b gives a < b
-- nat_eq-true            nat_eq a b gives a ≡ b
-- is_eq-true             an order that is_eq tells is Equal
-- nat_eq-false           where nat_eq a b is false, a ≡ b can't be
-- nat_lt-itself          nat_lt n n is false
-- equal-from             a ≡ b gives a == b
-- zero-not-suc           0 ≡ suc n can't be
-- one-plus               1 + n is suc n
-- suc-is-plus            suc n is n + 1
-- plus-one               n + 1 is suc n
-- suc-minus              suc n - 1 is n
-- suc-same               suc a ≡ suc b gives a ≡ b
-- nat_lt-from            a < b gives nat_lt a b
-- nat_lt-beyond          b ≤ a: nat_lt a b is false
-- nat_le-false           where nat_le a b is false, b < a
-- equal-apart            a ≢ b: a == b is false
-- plus-minus             n + 1 - 1 is n
-- zero-least             n ≤ 0 gives n ≡ 0
use Rattle.std.proofs.Common.{ap, arith, false, nat_eq, nat_le, refl, suc, sym, true, ℕ, ◌+◌, ◌-◌, ◌<◌, ◌∙◌, ◌≡◌, ◌≢◌, ◌≤◌}
use Rattle.std.proofs.lemmas.Bool.{false≢true}
use Rattle.std.proofs.lemmas.Bool.Decides.{nat_tests}
use Rattle.std.specs.Ordering.{is_eq}
use Rattle.std.specs.Prelude.{nat_lt, ◌==◌}
use Rattle.std.specs.declared.cmp.Ordering.{Ordering}
use Rattle.std.specs.declared.cmp.Ordering.TheVariants.{Equal, Greater, Less}
use Rattle.ckr_base.proofs.Bools.{bool-cases}

pub equal-itself : (number : ℕ) → (number == number) ≡ true
equal-itself number = grind (arith, nat_tests)

pub equal-true : (one other : ℕ) → (one == other) ≡ true → one ≡ other
equal-true one other e = grind (arith, nat_tests)

pub equal-false : (one other : ℕ) → (one == other) ≡ false → one ≢ other
equal-false one other isnt e = false≢true (sym isnt ∙ ap (λ n. n == other) e ∙ equal-itself other)

-- a number that is another one, or not
pub number-cases : {A : Type 0} (one other : ℕ) → (one ≡ other → A) → (one ≢ other → A) → A
number-cases one other same apart =
    bool-cases (one == other) (λ e. same (equal-true one other e))
    (λ e. apart (λ same. absurd (false≢true (sym e ∙ ap (λ n. one == n) (sym same) ∙ equal-itself one))))

pub nat_le-true : (one other : ℕ) → nat_le one other ≡ true → one ≤ other
nat_le-true one other e = grind (arith, nat_tests)

pub nat_le-from : (one other : ℕ) → one ≤ other → nat_le one other ≡ true
nat_le-from one other e = grind (arith, nat_tests)

pub nat_le-beyond : (need room : ℕ) → room < need → nat_le need room ≡ false
nat_le-beyond need room less = grind (arith, nat_tests, less)

pub nat_lt-true : (one other : ℕ) → nat_lt one other ≡ true → one < other
nat_lt-true one other e = grind (arith, nat_tests)

pub nat_eq-true : (a b : ℕ) → nat_eq a b ≡ true → a ≡ b
nat_eq-true a b e = grind (arith, nat_tests)

pub is_eq-true : (order : Ordering) → is_eq order ≡ true → order ≡ Equal
is_eq-true Less e = absurd (false≢true e)
is_eq-true Equal e = refl
is_eq-true Greater e = absurd (false≢true e)

pub one-plus : (n : ℕ) → 1 + n ≡ suc n
one-plus n = omega arith

pub suc-is-plus : (n : ℕ) → suc n ≡ n + 1
suc-is-plus n = omega arith

pub plus-one : (n : ℕ) → n + 1 ≡ suc n
plus-one n = omega arith

pub suc-minus : (n : ℕ) → suc n - 1 ≡ n
suc-minus n = omega arith

pub suc-same : (a b : ℕ) → suc a ≡ suc b → a ≡ b
suc-same a b e = omega (arith, e)

pub nat_eq-false : (a b : ℕ) → nat_eq a b ≡ false → a ≡ b → ⊥
nat_eq-false a b isnt e = grind (arith, nat_tests)

pub nat_lt-itself : (n : ℕ) → nat_lt n n ≡ false
nat_lt-itself n = grind (arith, nat_tests)

pub equal-from : (a b : ℕ) → a ≡ b → (a == b) ≡ true
equal-from a b e = ap (λ n. n == b) e ∙ equal-itself b

pub zero-not-suc : (n : ℕ) → 0 ≡ suc n → ⊥
zero-not-suc n e = omega (arith, e)

pub nat_lt-from : (one other : ℕ) → one < other → nat_lt one other ≡ true
nat_lt-from one other less = grind (arith, nat_tests)

pub nat_lt-beyond : (one other : ℕ) → other ≤ one → nat_lt one other ≡ false
nat_lt-beyond one other most = grind (arith, nat_tests)

pub nat_le-false : (one other : ℕ) → nat_le one other ≡ false → other < one
nat_le-false one other isnt = grind (arith, nat_tests)

pub equal-apart : (one other : ℕ) → one ≢ other → (one == other) ≡ false
equal-apart one other apart = bool-cases (one == other) (λ same. absurd (apart (equal-true one other same))) (λ e. e)

pub plus-minus : (n : ℕ) → n + 1 - 1 ≡ n
plus-minus n = omega arith

pub zero-least : (n : ℕ) → n ≤ 0 → n ≡ 0
zero-least n none = omega arith
