-- What is kept of statements whose records are gone past.
use Rattle.std.specs.Prelude.{◌≡◌, ℕ, ◌+◌, List, [], ◌∷◌, map, fold}
use Rattle.ckr_cards.specs.declared.statement.Statement.{Statement}
use Rattle.ckr_cards.specs.Card.{stored_card, stored_cards}
use Rattle.ckr_cards.specs.Statement.{statement_at}
use Rattle.ckr_jcl_faults.specs.declared.deck_text.JobText.{JobText}
use Rattle.ckr_jcl_faults.specs.DeckText.{job_text, with_statement}
use Rattle.ckr_jcl_faults.specs.Faults.{long_card}
use Rattle.ckr_open_deck.specs.declared.statement.StatementHead.{StatementHead}

abbrev pub without_records : Statement → Statement
without_records s = record s { records = [] }

-- the statement that begins with the card of a number, before the cards that are left
abbrev pub statement_left : ℕ → List ℕ → List (List ℕ) → Statement
statement_left number first left = statement_at (stored_card number first) (stored_cards (number + 1) left)

-- a statement without its records, and the first of these whose line was longer
pub record IsHead (head : StatementHead) (s : Statement) : Type 0 where
  pub statement : head.statement ≡ without_records s
  pub long : head.long ≡ long_card s.records

-- what the statements of a deck say, the records apart, before its last step is closed
abbrev pub IsTextWithout : List Statement → JobText → Type 0
IsTextWithout [] job = ⊥
IsTextWithout (first ∷ rest) job = job ≡ fold with_statement (job_text (without_records first)) (map without_records rest)
