use Rattle.ckr_desk_turn.proofs.Decks.CheckParts.{steps_checked}
use Rattle.ckr_desk_turn.proofs.deck_laws.accepted_decks_have_check_parts.Goals as goal

pub returns : goal.returns
returns c = steps_checked
