-- At most 8 digits stand for a number below 100,000,000.
use Rattle.std.proofs.Common.{ℕ, zero, ◌^◌, ◌<◌, ◌≤◌, arith}
use Rattle.std.proofs.Math.Nat.{pow-le-pow_right}

pub eight_digits : (number k : ℕ) → number < 10 ^ k → k < 9 → number < 100000000
eight_digits number k below few =
    let ten : zero < 10 = omega arith in
    let at_most : k ≤ 8 = omega arith in
    omega (arith, pow-le-pow_right ten at_most)
