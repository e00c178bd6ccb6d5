use Rattle.ckr_desk_turn.proofs.Checkpoints.Ranges.{entry-range, range-entry}
use Rattle.ckr_desk_turn.proofs.checkpoint_laws.entries_in_range_have_a_spelling.Goals as goal

pub returns : goal.returns
returns c = record { spelled = range-entry; ranges = entry-range }
