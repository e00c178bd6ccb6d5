use Rattle.ckr_desk_refines.proofs.Entries.CheckSets.{check-dd, sound-plain}
use Rattle.ckr_desk_refines.proofs.Entries.SoundEvents.{reach-next, sound-entries, sound-owners}
use Rattle.ckr_desk_refines.proofs.entry_laws.sound_events_keep_entries_within.Goals as goal

pub returns : goal.returns
returns c = record {
  within = λ layout front more are. (sound-entries layout front more are).0;
  owners = sound-owners;
  effect = λ layout front more are. (sound-entries layout front more are).1;
  plain = sound-plain;
  checks = λ layout now job taken writes place bytes id lengths deck kept has may. check-dd layout now kept has job taken writes place bytes id lengths deck may;
  others = λ layout now event deck are next. reach-next layout now are event deck next;
}
