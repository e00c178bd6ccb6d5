use Rattle.std.proofs.Common.{◌≡◌, ◌+◌, ◌-◌, ◌≤◌, nat_lt, length, drop}
use Rattle.ckr_library.specs.Places.{lead}
use Rattle.ckr_points_runs.proofs.step_points.place_for.Given as goal

abbrev pub invariant-loop-place : goal.invariant-loop-place
invariant-loop-place l =
    (l.place ≤ length l.items) × (l.place + lead (λ point. nat_lt point.step l.step) (drop l.place l.items) ≡ lead (λ point. nat_lt point.step l.step) l.items)

abbrev pub decreases-loop-place : goal.decreases-loop-place
decreases-loop-place l = length l.items - l.place
