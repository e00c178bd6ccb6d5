use Rattle.ckr_desk_turn.proofs.Decks.DeckLimits.{few_steps, steps_within}
use Rattle.ckr_desk_turn.proofs.deck_laws.accepted_decks_are_within_limits.Goals as goal

pub returns : goal.returns
returns c = record { steps = few_steps; each = steps_within }
