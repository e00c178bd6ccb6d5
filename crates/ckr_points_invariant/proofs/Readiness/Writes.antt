-- Writes of a step among which none is a rewrite: up to another one, and on from there.
use Rattle.std.proofs.Common.{◌≡◌, ◌≤◌, ℕ, zero, suc, ◌+◌, ◌-◌, Bool, true, not, List, [], ◌∷◌, drop, take, refl, ap, sym, ◌∙◌, arith}
use Rattle.std.specs.List.{list_all}
use Rattle.std.proofs.lemmas.Bool.{and_from}
use Rattle.ckr_base.specs.declared.programs.Write.{Write}
use Rattle.ckr_base.proofs.Bools.{and-first, and-second}
use Rattle.ckr_meaning.specs.StepRun.{StepStart, work_at}
use Rattle.ckr_points.specs.Payload.{is_in_place, rewrites_nothing}

all-more : {A : Type 0} (test : A → Bool) (n m : ℕ) (items : List A) → list_all test (take n items) ≡ true → list_all test (take m (drop n items)) ≡ true → list_all test (take (n + m) items) ≡ true
all-more test zero m items first later = ap (λ k. list_all test (take k items)) (let e : 0 + m ≡ m = omega arith in e) ∙ later
all-more test (suc n) m [] first later = ap (λ k. list_all test (take k [])) (let e : suc n + m ≡ suc (n + m) = omega arith in e)
all-more test (suc n) m (one ∷ rest) first later =
    ap (λ k. list_all test (take k (one ∷ rest))) (let e : suc n + m ≡ suc (n + m) = omega arith in e)
    ∙ and_from (test one) _ (and-first (test one) _ first) (all-more test n m rest (and-second (test one) _ first) later)

all-less : {A : Type 0} (test : A → Bool) (n m : ℕ) (items : List A) → m ≤ n → list_all test (take n items) ≡ true → list_all test (take m items) ≡ true
all-less test n zero items below each = refl
all-less test zero (suc m) items below each = absurd (omega (arith, below))
all-less test (suc n) (suc m) [] below each = refl
all-less test (suc n) (suc m) (one ∷ rest) below each =
    and_from (test one) _ (and-first (test one) _ each) (all-less test n m rest (let e : m ≤ n = omega (arith, below) in e) (and-second (test one) _ each))

drop-more : {A : Type 0} (n m : ℕ) (items : List A) → drop (n + m) items ≡ drop m (drop n items)
drop-more zero m items = ap (λ k. drop k items) (let e : 0 + m ≡ m = omega arith in e)
drop-more (suc n) m [] = ap (λ k. drop k []) (let e : suc n + m ≡ suc (n + m) = omega arith in e) ∙ nothing m
  where
    nothing : {A : Type 0} (k : ℕ) → (let none : List A = [] in none) ≡ drop k []
    nothing zero = refl
    nothing (suc k) = refl
drop-more (suc n) m (one ∷ rest) = ap (λ k. drop k (one ∷ rest)) (let e : suc n + m ≡ suc (n + m) = omega arith in e) ∙ drop-more n m rest

module _ (start : StepStart) where
  abbrev kept : Write → Bool
  kept write = not (is_in_place write.output)

  abbrev all : List Write
  all = (work_at start).writes

  -- none, up to themselves
  pub unwritten-none : (writes : ℕ) → rewrites_nothing start writes writes ≡ true
  unwritten-none writes = ap (λ k. list_all kept (take k (drop writes all))) (let e : writes - writes ≡ 0 = omega arith in e)

  -- and on
  pub unwritten-on : (from middle to : ℕ) → from ≤ middle → middle ≤ to → rewrites_nothing start from middle ≡ true → rewrites_nothing start middle to ≡ true → rewrites_nothing start from to ≡ true
  unwritten-on from middle to below above first later =
      ap (λ k. list_all kept (take k (drop from all))) (let e : to - from ≡ (middle - from) + (to - middle) = omega (arith, below, above) in e)
      ∙ all-more kept (middle - from) (to - middle) (drop from all) first
      (ap (λ items. list_all kept (take (to - middle) items)) (sym (drop-more from (middle - from) all) ∙ ap (λ k. drop k all) (let e : from + (middle - from) ≡ middle = omega (arith, below) in e)) ∙ later)

  -- not so far
  pub unwritten-less : (from middle to : ℕ) → middle ≤ to → rewrites_nothing start from to ≡ true → rewrites_nothing start from middle ≡ true
  unwritten-less from middle to below each = all-less kept (to - from) (middle - from) (drop from all) (let e : middle - from ≤ to - from = omega (arith, below) in e) each
