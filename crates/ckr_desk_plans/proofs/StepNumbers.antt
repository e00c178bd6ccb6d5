-- Steps are numbered from one.
use Rattle.std.proofs.Common.{◌≡◌, ◌≤◌, ℕ, zero, suc, sym, IsSome, Some, arith}
use Rattle.ckr_base.proofs.Options.{is_some-true, some-not-none}
use Rattle.ckr_meaning.specs.EffectiveJob.{Effective, OwnedStep, step_at}
use Rattle.ckr_points.specs.Follows.{own_step}
use Rattle.ckr_points.specs.Restart.{place_of, step_in}
use Rattle.ckr_points.specs.Rows.{RunRow}

pub first-step : (job : Effective) (number : ℕ) (own : OwnedStep) → step_at job number ≡ Some own → 1 ≤ number
first-step job zero own at = absurd (some-not-none own (sym at))
first-step job (suc before) own at = omega arith

-- so is the one that a run is in
pub own-above : (row : RunRow) → IsSome (own_step row) → 1 ≤ step_in (place_of row)
own-above row there = is_some-true (own_step row) there (λ own at. first-step row.job (step_in (place_of row)) own at)
