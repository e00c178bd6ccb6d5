-- Step points in ascending order of their steps.
use Rattle.std.specs.Prelude.{ℕ, Bool, true, ◌&&◌, nat_lt, List, [], ◌∷◌}
use Rattle.ckr_points.specs.Rows.{StartPoint}

-- whether a step is below those of all of these points
abbrev pub is_below : ℕ → List StartPoint → Bool
is_below step [] = true
is_below step (point ∷ points) = nat_lt step point.step && is_below step points

-- whether the steps ascend
abbrev pub are_in_order : List StartPoint → Bool
are_in_order [] = true
are_in_order (point ∷ points) = is_below point.step points && are_in_order points
