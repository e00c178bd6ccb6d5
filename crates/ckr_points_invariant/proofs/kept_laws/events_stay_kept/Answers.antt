use Rattle.ckr_points_invariant.proofs.KeptEvents.{next-kept, none-kept, prefix-kept, prefix-sound}
use Rattle.ckr_points_invariant.proofs.kept_laws.events_stay_kept.Goals as goal

pub returns : goal.returns
returns c = record {
  none = none-kept;
  next = λ layout now event deck are next. next-kept layout now are event deck next;
  prefix = prefix-kept;
  sound = prefix-sound;
}
