use Rattle.ckr_desk_turn.proofs.Checkpoints.Events.{effect-so, kept-so}
use Rattle.ckr_desk_turn.proofs.checkpoint_laws.written_entries_are_kept.Goals as goal

pub returns : goal.returns
returns c = record { kept = kept-so; in_effect = effect-so }
