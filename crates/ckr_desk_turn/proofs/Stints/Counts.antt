-- Counts of records at which something comes in a step: one record further on, and the cancel, which comes once at most.
use Rattle.std.proofs.Common.{◌≡◌, ◌≤◌, ◌<◌, ◌+◌, ◌-◌, ℕ, suc, Bool, true, false, cond, not, ◌&&◌, ap, sym, ◌∙◌, arith}
use Rattle.std.specs.Prelude.{◌==◌, nat_lt}
use Rattle.std.specs.List.{count_by, range_with_len}
use Rattle.std.proofs.lemmas.Bool.Decides.{nat_tests}
use Rattle.std.proofs.lemmas.List.Sums.{sum_by-cons}
use Rattle.ckr_base.proofs.Bools.{and-false, and-second, bool-cases}
use Rattle.ckr_base.proofs.Numbers.{equal-true, suc-is-plus}

-- the counts behind one, up to another, at which a test holds
abbrev pub counts_behind : (ℕ → Bool) → ℕ → ℕ → ℕ
counts_behind test from to = count_by test (range_with_len (suc from) (to - from))

-- those behind the next one are one fewer where it holds there
pub counts-next : (test : ℕ → Bool) (from to : ℕ) → from < to → counts_behind test from to ≡ cond (test (suc from)) 1 0 + counts_behind test (suc from) to
counts-next test from to below =
    ap (λ n. count_by test (range_with_len (suc from) n)) (let e : to - from ≡ suc (to - suc from) = omega (arith, below) in e)
    ∙ sum_by-cons (λ n. cond (test n) 1 0) (suc from) (range_with_len (suc from + 1) (to - suc from))
    ∙ ap (λ n. cond (test (suc from)) 1 0 + count_by test (range_with_len n (to - suc from))) (sym (suc-is-plus (suc from)))

pub one-most : (b : Bool) → cond b 1 0 ≤ 1
one-most true = omega arith
one-most false = omega arith

-- ---- the cancel

-- whether the cancel comes at a count
abbrev pub comes_at : ℕ → ℕ → Bool
comes_at cancel taken = not (cancel == 0) && taken == cancel

-- how many cancels are still to come, by whether the one that comes now is done
abbrev pub cancels_left : ℕ → ℕ → Bool → ℕ
cancels_left cancel taken done = cond (nat_lt cancel taken) 0 (cond (comes_at cancel taken && done) 0 1)

pub cancels-most : (cancel taken : ℕ) (done : Bool) → cancels_left cancel taken done ≤ 1
cancels-most cancel taken done = by (nat_lt cancel taken) (comes_at cancel taken && done)
  where
    by : (past now : Bool) → cond past 0 (cond now 0 1) ≤ 1
    by true now = omega arith
    by false true = omega arith
    by false false = omega arith

past-next : (cancel taken : ℕ) → nat_lt cancel taken ≡ true → nat_lt cancel (suc taken) ≡ true
past-next cancel taken past = grind (arith, nat_tests)

past-here : (cancel taken : ℕ) → taken ≡ cancel → nat_lt cancel (suc taken) ≡ true
past-here cancel taken same = grind (arith, nat_tests)

not-past : (cancel taken : ℕ) → taken ≡ cancel → nat_lt cancel taken ≡ false
not-past cancel taken same = grind (arith, nat_tests)

-- where none is due, no more come behind the next record
pub cancels-next : (cancel taken : ℕ) (done : Bool) → (comes_at cancel taken && not done) ≡ false → cancels_left cancel (suc taken) false ≤ cancels_left cancel taken done
cancels-next cancel taken done none =
    bool-cases (nat_lt cancel taken)
    (λ past. none-left (past-next cancel taken past))
    (λ isnt.
    bool-cases (comes_at cancel taken)
    (λ here. none-left (past-here cancel taken (equal-true taken cancel (and-second (not (cancel == 0)) (taken == cancel) here))))
    (λ out.
    let most : cancels_left cancel (suc taken) false ≤ 1 = cancels-most cancel (suc taken) false in
    let one : cancels_left cancel taken done ≡ 1 = ap (λ b. cond b 0 (cond (comes_at cancel taken && done) 0 1)) isnt ∙ ap (λ b. cond (b && done) 0 1) out in
    omega (arith, most, one)))
  where
    none-left : nat_lt cancel (suc taken) ≡ true → cancels_left cancel (suc taken) false ≤ cancels_left cancel taken done
    none-left past =
        let zero_left : cancels_left cancel (suc taken) false ≡ 0 = ap (λ b. cond b 0 (cond (comes_at cancel (suc taken) && false) 0 1)) past in
        omega (arith, zero_left)

-- one that is due is the last one
pub cancels-done : (cancel taken : ℕ) (done : Bool) → comes_at cancel taken ≡ true → done ≡ false → suc (cancels_left cancel taken true) ≤ cancels_left cancel taken done
cancels-done cancel taken done here undone =
    let isnt : nat_lt cancel taken ≡ false = not-past cancel taken (equal-true taken cancel (and-second (not (cancel == 0)) (taken == cancel) here)) in
    let after : cancels_left cancel taken true ≡ 0 = ap (λ b. cond b 0 (cond (comes_at cancel taken && true) 0 1)) isnt ∙ ap (λ b. cond (b && true) 0 1) here in
    let before : cancels_left cancel taken done ≡ 1 =
    ap (λ b. cond b 0 (cond (comes_at cancel taken && done) 0 1)) isnt ∙ ap (λ b. cond (comes_at cancel taken && b) 0 1) undone ∙ ap (λ b. cond b 0 1) (and-false (comes_at cancel taken)) in
    omega (arith, after, before)
