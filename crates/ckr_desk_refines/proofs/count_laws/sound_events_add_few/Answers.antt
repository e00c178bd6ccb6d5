use Rattle.ckr_desk_refines.proofs.Counts.Bytes.{event-adds}
use Rattle.ckr_desk_refines.proofs.Counts.Events.{sound-few}
use Rattle.ckr_desk_refines.proofs.count_laws.sound_events_add_few.Goals as goal

pub returns : goal.returns
returns c = record {
  sets = λ layout events are. (sound-few layout events are).many;
  rewrites = λ layout events are. (sound-few layout events are).each;
  bytes = event-adds;
}
