use Rattle.std.proofs.Common.{◌≡◌, ◌++◌, length, take, drop}
use Rattle.ckr_library.specs.Fronts.{fronts_from}
use Rattle.ckr_library.proofs.fronts.renew.Given as goal

abbrev pub invariant-loop-place : goal.invariant-loop-place
invariant-loop-place l = record {
  each : length l.fronts ≡ length l.spans;
  stand : drop l.place l.fronts ≡ fronts_from l.was (drop l.place l.spans);
  made : take l.place l.fronts ++ fronts_from l.now (drop l.place l.spans) ≡ take l.fn.from l.fn.fronts ++ fronts_from l.fn.now (drop l.fn.from l.spans);
}
