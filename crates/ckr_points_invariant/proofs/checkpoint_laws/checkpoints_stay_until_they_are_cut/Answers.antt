use Rattle.ckr_points_invariant.proofs.StayingEntries.{checkpoint-taken, entry-stays, entry-stays-behind, sound-checkpoint}
use Rattle.ckr_points_invariant.proofs.checkpoint_laws.checkpoints_stay_until_they_are_cut.Goals as goal

pub returns : goal.returns
returns c = record {
  taken = λ layout now job taken writes place bytes id lengths deck are next. checkpoint-taken layout now are job taken writes place bytes id lengths deck next;
  stays = λ layout now event deck set id entry are next kept. entry-stays layout now are set id entry kept event deck next;
  until = λ layout now later set id entry are sound kept. entry-stays-behind layout later now set id entry are sound kept;
  sound = sound-checkpoint;
}
