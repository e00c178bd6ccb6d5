use Rattle.ckr_desk_refines.proofs.Checkpoints.Turns.{entry-made, event-made}
use Rattle.ckr_desk_refines.proofs.checkpoint_laws.checkpoints_in_memory_are_those_of_the_desk.Goals as goal

pub returns : goal.returns
returns c = record {
  event = λ layout jobs image desk turn run on to made is. event-made layout jobs image desk turn run on to made is;
  entry = λ layout jobs image desk turn run on to made is row start progress of known. entry-made layout jobs image desk turn run on to made is row start progress of known;
}
