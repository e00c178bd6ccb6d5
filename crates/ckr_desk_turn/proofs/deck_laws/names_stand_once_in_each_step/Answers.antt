use Rattle.ckr_desk_turn.proofs.Decks.JobForm.{job_once, steps_once}
use Rattle.ckr_desk_turn.proofs.deck_laws.names_stand_once_in_each_step.Goals as goal

pub returns : goal.returns
returns c = record { each = steps_once; job = job_once }
