use Rattle.std.proofs.Common.{◌<◌, ◌≤◌, ℕ, IsTrue, arith}
use Rattle.std.proofs.lemmas.Bool.Decides.{nat_tests}
use Rattle.ckr_fields.specs.Fields.{between}
use Rattle.ckr_points_tables.proofs.allocation.made_of.Goals as goal

whole : (n : ℕ) → 1 ≤ n → n < 256 → IsTrue (between 1 255 n)
whole n some below = grind (arith, nat_tests, some, below)

pub returns-clause-fits : goal.returns-clause-fits
returns-clause-fits c =
    let dd : c.args.dd < 256 = omega arith in
    ((dd, whole c.args.dd c.requires.number dd), (omega arith, c.requires.pieces))
