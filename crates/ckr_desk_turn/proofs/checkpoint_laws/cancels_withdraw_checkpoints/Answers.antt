use Rattle.ckr_desk_turn.proofs.Checkpoints.Events.{cancel-entries, cancel-withdraws}
use Rattle.ckr_desk_turn.proofs.Checkpoints.Plans.{cancelled-behind}
use Rattle.ckr_desk_turn.proofs.checkpoint_laws.cancels_withdraw_checkpoints.Goals as goal

pub returns : goal.returns
returns c = record { withdrawn = cancel-withdraws; entries = cancel-entries; done = cancelled-behind }
