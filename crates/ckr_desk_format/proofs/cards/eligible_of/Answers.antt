use Rattle.std.proofs.Common.{◌≤◌, ℕ, IsTrue, arith}
use Rattle.std.proofs.lemmas.Bool.Decides.{nat_tests}
use Rattle.ckr_volumes.specs.Header.{is_within}
use Rattle.ckr_desk_format.proofs.cards.eligible_of.Goals as goal

within_32 : (n : ℕ) → 1 ≤ n → n ≤ 32 → IsTrue (is_within 1 32 n)
within_32 n low high = grind (arith, nat_tests)

pub returns-then-put_codes-clause-limits : goal.returns-then-put_codes-clause-limits
returns-then-put_codes-clause-limits c =
    let made = c.if-put_codes.ensures in
    (within_32 _ made.some made.few, made.fit)
