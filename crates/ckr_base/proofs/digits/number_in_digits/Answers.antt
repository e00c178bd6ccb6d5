use Rattle.std.proofs.Common.{◌^◌, ◌≤◌, ℕ, lit<, arith}
use Rattle.std.proofs.Math.Nat.{pow-le-pow_right}
use Rattle.ckr_base.proofs.Blanks.{power_of_fifteen}
use Rattle.ckr_base.proofs.digits.number_in_digits.Goals as goal

-- a digit more still fits
power : (i : ℕ) → i ≤ 14 → 10 ^ i ≤ 10 ^ 14
power i h = pow-le-pow_right {n = 10} (lit< tt) h

pub overflow_mul-number : goal.overflow_mul-number
overflow_mul-number c = omega (arith, power c.loop-digit.digit-index (omega arith), c.loop-digit.invariant.small)

pub overflow_add-number : goal.overflow_add-number
overflow_add-number c = omega (arith, power c.loop-digit.digit-index (omega arith), c.loop-digit.invariant.small)

pub returns-clause-bound : goal.returns-clause-bound
returns-clause-bound c = omega (arith, power_of_fifteen c.loop-digit.digit-index (omega arith), c.loop-digit.invariant.small)
