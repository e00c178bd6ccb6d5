use Rattle.ckr_desk_turn.proofs.Checkpoints.Steps.{check-content, check-length}
use Rattle.ckr_desk_turn.proofs.Runs.Lists.{events-checked}
use Rattle.ckr_desk_turn.proofs.entry_form_laws.check_sets_have_records_of_256_bytes.Goals as goal

pub returns : goal.returns
returns c = record { sound = events-checked; content = check-content; records = check-length }
