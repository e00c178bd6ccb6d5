-- The writes of a step go on from any of them.
use Rattle.std.proofs.Common.{◌≡◌, ℕ, zero, suc, ◌+◌, List, [], ◌∷◌, ◌++◌, take, drop, refl, ap, ◌∙◌, arith}
use Rattle.ckr_base.specs.declared.programs.Write.{Write}
use Rattle.ckr_meaning.specs.LibrarySet.{Library}
use Rattle.ckr_meaning.specs.StepRun.{StepStart, made_at, written_one, written_all, work_at, within_at}

take-nothing : (count : ℕ) → take count (let none : List Write = [] in none) ≡ []
take-nothing zero = refl
take-nothing (suc count) = refl

take-parts : (n m : ℕ) (writes : List Write) → take (n + m) writes ≡ take n writes ++ take m (drop n writes)
take-parts zero m writes = ap (λ k. take k writes) (let e : 0 + m ≡ m = omega arith in e)
take-parts (suc n) m [] = take-nothing (suc n + m) ∙ nothing m
  where
    nothing : (k : ℕ) → [] ≡ take k (let none : List Write = [] in none)
    nothing zero = refl
    nothing (suc k) = refl
take-parts (suc n) m (write ∷ writes) =
    ap (λ k. take k (write ∷ writes)) (let e : suc n + m ≡ suc (n + m) = omega arith in e) ∙ ap (λ others. write ∷ others) (take-parts n m writes)

pub written_all-append : (start : StepStart) (first more : List Write) (library : Library) → written_all start (first ++ more) library ≡ written_all start more (written_all start first library)
written_all-append start [] more library = refl
written_all-append start (write ∷ writes) more library = written_all-append start writes more (written_one start write library)

-- some writes more
pub within_at-more : (start : StepStart) (writes more : ℕ) → within_at start (writes + more) ≡ written_all start (take more (drop writes (work_at start).writes)) (within_at start writes)
unfolding within_at
within_at-more start writes more =
    ap (λ all. written_all start all (made_at start)) (take-parts writes more (work_at start).writes)
    ∙ written_all-append start (take writes (work_at start).writes) (take more (drop writes (work_at start).writes)) (made_at start)

-- none yet
pub within_at-none : (start : StepStart) → within_at start 0 ≡ made_at start
unfolding within_at
within_at-none start = refl
