-- Runs of different numbers have different names.
use Rattle.std.proofs.Common.{◌≡◌, ◌<◌, ◌≤◌, ◌^◌, ℕ, arith}
use Rattle.ckr_base.specs.Digits.{last_digits}
use Rattle.ckr_base.proofs.Sequences.{tail-same}
use Rattle.ckr_base.proofs.NameBytes.{digits-same}
use Rattle.ckr_uses.specs.SetNames.{run_name}

pub run_name-same : (one two : ℕ) → one ≤ 9999999 → two ≤ 9999999 → run_name one ≡ run_name two → one ≡ two
run_name-same one two small little e = digits-same 7 one two (within one small) (within two little) (tail-same 74 74 (last_digits 7 one) (last_digits 7 two) e)
  where
    within : (n : ℕ) → n ≤ 9999999 → n < 10 ^ 7
    within n h = omega arith
