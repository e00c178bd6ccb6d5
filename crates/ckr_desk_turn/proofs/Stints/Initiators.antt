-- The run on an initiator behind a change of one run's row: it is that run still where the row keeps the initiator, or where another row changes that doesn't get it.
use Rattle.std.proofs.Common.{◌≡◌, ◌≢◌, ◌<◌, ℕ, zero, suc, Bool, true, false, cond, List, [], ◌∷◌, find, slice_get, slice_set, refl, ap, sym, ◌∙◌, Some, arith}
use Rattle.std.proofs.lemmas.Option.{same_Some}
use Rattle.ckr_base.proofs.Bools.{bool-cases}
use Rattle.ckr_base.proofs.Numbers.{number-cases}
use Rattle.ckr_base.proofs.Options.{some-not-none}
use Rattle.ckr_base.proofs.Sequences.{get-set-other}

-- ---- lists

-- the first one that passes a test stands at a place
pub record IsFirst {X : Type 0} (test : X → Bool) (xs : List X) (place : ℕ) (x : X) : Type 0 where
  pub at : slice_get xs place ≡ Some x
  pub passes : test x ≡ true
  pub before : (other : ℕ) (y : X) → other < place → slice_get xs other ≡ Some y → test y ≡ false

pub first-found : {X : Type 0} (test : X → Bool) (xs : List X) (x : X) → find test xs ≡ Some x → (place : ℕ) × IsFirst test xs place x
first-found test [] x found = absurd (some-not-none x (sym found))
first-found test (first ∷ xs) x found =
    bool-cases (test first)
    (λ does.
    let same : first ≡ x = same_Some first x (sym (ap (λ b. cond b (Some first) (find test xs)) does) ∙ found) in
    (zero, record { at = ap Some same; passes = ap test (sym same) ∙ does; before = λ other y below at. absurd (omega (arith, below)) }))
    (λ isnt.
    let rest = first-found test xs x (sym (ap (λ b. cond b (Some first) (find test xs)) isnt) ∙ found) in
    (suc rest.0, record { at = rest.1.at; passes = rest.1.passes; before = earlier isnt rest.0 rest.1 }))
  where
    earlier : test first ≡ false → (place : ℕ) → IsFirst test xs place x → (other : ℕ) (y : _) → other < suc place → slice_get (first ∷ xs) other ≡ Some y → test y ≡ false
    earlier isnt place is zero y below at = ap test (sym (same_Some first y at)) ∙ isnt
    earlier isnt place is (suc other) y below at = is.before other y (omega arith) at

pub found-first : {X : Type 0} (test : X → Bool) (xs : List X) (place : ℕ) (x : X) → IsFirst test xs place x → find test xs ≡ Some x
found-first test [] place x is = absurd (some-not-none x (sym is.at))
found-first test (first ∷ xs) zero x is =
    let same : first ≡ x = same_Some first x is.at in
    ap (λ b. cond b (Some first) (find test xs)) (ap test same ∙ is.passes) ∙ ap Some same
found-first test (first ∷ xs) (suc place) x is =
    ap (λ b. cond b (Some first) (find test xs)) (is.before zero first (omega arith) refl)
    ∙ found-first test xs place x (record { at = is.at; passes = is.passes; before = λ other y below at. is.before (suc other) y (omega arith) at })

get-set : {X : Type 0} (xs : List X) (place : ℕ) (x y : X) → slice_get (slice_set xs place x) place ≡ Some y → x ≡ y
get-set [] place x y at = absurd (some-not-none y (sym at))
get-set (first ∷ xs) zero x y at = same_Some x y at
get-set (first ∷ xs) (suc place) x y at = get-set xs place x y at

-- where another one is put in that doesn't pass, it stays the first
pub first-other : {X : Type 0} (test : X → Bool) (xs : List X) (place other : ℕ) (x y : X) → other ≢ place → test y ≡ false → IsFirst test xs place x → IsFirst test (slice_set xs other y) place x
first-other test xs place other x y apart off is = record {
  at = get-set-other xs other place y (λ e. apart (sym e)) ∙ is.at;
  passes = is.passes;
  before = λ at z below got.
      number-cases at other
      (λ here. ap test (sym (get-set xs other y z (ap (slice_get (slice_set xs other y)) (sym here) ∙ got))) ∙ off)
      (λ away. is.before at z below (sym (get-set-other xs other at y away) ∙ got));
}

-- where one that passes comes in its place, that one is
pub first-same : {X : Type 0} (test : X → Bool) (xs later : List X) (place : ℕ) (x y : X) → slice_get later place ≡ Some y → test y ≡ true → ((other : ℕ) → other ≢ place → slice_get later other ≡ slice_get xs other) → IsFirst test xs place x → IsFirst test later place y
first-same test xs later place x y at passes others is = record {
  at = at;
  passes = passes;
  before = λ other z below got. is.before other z below (sym (others other (λ e. omega (arith, e, below))) ∙ got);
}
