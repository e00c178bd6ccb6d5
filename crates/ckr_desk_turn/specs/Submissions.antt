-- What becomes of a deck that is submitted.
use Rattle.std.specs.Prelude.{ℕ, List, Result, Ok, Err}
use Rattle.ckr_jcl.specs.declared.deck.Job.{Job}
use Rattle.ckr_jcl_decks.specs.Parts.Fault.{Fault}
use Rattle.ckr_jcl_decks.specs.Deck.{stored_deck}
use Rattle.ckr_desk_turn.specs.declared.submit.Submission.{Submission}
use Rattle.ckr_desk_turn.specs.declared.submit.Submission.TheVariants.{Accepted, Refused}

-- it is refused by the rules, or it is the job that its cards say
abbrev pub submission_by : Result Job Fault → Submission
submission_by (Err fault) = Refused fault.number fault.card
submission_by (Ok job) = Accepted job

-- what becomes of the cards of a deck
unfoldable pub submission_of : List ℕ → Submission
submission_of cards = submission_by (stored_deck cards)
