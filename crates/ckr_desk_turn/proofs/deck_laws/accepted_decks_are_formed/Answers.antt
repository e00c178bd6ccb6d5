use Rattle.ckr_desk_turn.proofs.Decks.JobForm.{job_formed, steps_formed}
use Rattle.ckr_desk_turn.proofs.Decks.OrderlyDecks.{deck-orderly}
use Rattle.ckr_desk_turn.proofs.Decks.SyschkNames.{deck-syschk}
use Rattle.ckr_desk_turn.proofs.deck_laws.accepted_decks_are_formed.Goals as goal

pub returns : goal.returns
returns c = record { each = steps_formed; job = job_formed; orderly = deck-orderly; syschk = deck-syschk }
