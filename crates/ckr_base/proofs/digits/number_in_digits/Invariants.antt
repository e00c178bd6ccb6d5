use Rattle.std.proofs.Common.{◌≡◌, ◌<◌, ◌^◌, take}
use Rattle.ckr_base.specs.Words.{number_in_digits}
use Rattle.ckr_base.proofs.digits.number_in_digits.Given as goal

abbrev pub invariant-loop-digit : goal.invariant-loop-digit
invariant-loop-digit l = record {
  value : l.number ≡ number_in_digits (take l.digit-index l.digits);
  small : l.number < 10 ^ l.digit-index;
}
