use Rattle.ckr_desk_turn.proofs.Checkpoints.Steps.{id-counted, id-ranged}
use Rattle.ckr_desk_turn.proofs.entry_form_laws.next_entries_have_an_identifier.Goals as goal

pub returns : goal.returns
returns c = record { counted = id-counted; ranged = id-ranged }
