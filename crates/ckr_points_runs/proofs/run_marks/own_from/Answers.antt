use Rattle.std.proofs.Common.{◌≡◌, ℕ, zero, suc, ◌-◌, pred, arith}
use Rattle.ckr_points_runs.proofs.run_marks.own_from.Goals as goal

one-less : (n : ℕ) → n - 1 ≡ pred n
one-less zero = omega arith
one-less (suc n) = omega arith

pub returns : goal.returns
returns c = omega (arith, c.saturating_sub.ensures, c.from.ensures, c.earlier_step.ensures, one-less c.args.job.now.earlier_step)
