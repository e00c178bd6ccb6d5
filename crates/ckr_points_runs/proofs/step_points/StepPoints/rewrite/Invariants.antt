use Rattle.std.proofs.Common.{◌≡◌, map, take, drop, vec_len, vec_capacity}
use Rattle.ckr_points.specs.Tables.{point_rewritten}
use Rattle.ckr_points_runs.specs.View.{point_of}
use Rattle.ckr_points_runs.proofs.step_points.StepPoints.rewrite.Given as goal

abbrev pub invariant-loop-place : goal.invariant-loop-place
invariant-loop-place l = record {
  done : take l.place (map point_of l.self-inside.items.items) ≡ map (point_rewritten l.step) (take l.place (map point_of l.initial.self-inside.items.items));
  left : drop l.place (map point_of l.self-inside.items.items) ≡ drop l.place (map point_of l.initial.self-inside.items.items);
  long : vec_len l.self-inside.items ≡ vec_len l.initial.self-inside.items;
  room : vec_capacity l.self-inside.items ≡ vec_capacity l.initial.self-inside.items;
}
