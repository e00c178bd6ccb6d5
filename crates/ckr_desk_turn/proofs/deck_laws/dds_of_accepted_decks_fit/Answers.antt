use Rattle.ckr_desk_turn.proofs.Decks.AllocationNeeds.{all_fit}
use Rattle.ckr_desk_turn.proofs.deck_laws.dds_of_accepted_decks_fit.Goals as goal

pub returns : goal.returns
returns c = all_fit
