use Rattle.std.proofs.Common.{◌≡◌, length, drop}
use Rattle.ckr_outside.specs.Stop.{left_after}
use Rattle.ckr_outside.proofs.changes.leave.Given as goal

abbrev pub invariant-loop-change : goal.invariant-loop-change
invariant-loop-change l = record {
  as_long : length l.now ≡ length l.left;
  rest : left_after l.pick l.now l.left (drop l.change-index l.changes) ≡ left_after l.pick l.fn.left l.fn.left l.changes;
}
