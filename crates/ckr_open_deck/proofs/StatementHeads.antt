-- A statement that is read without its records.
use Rattle.std.proofs.Common.{◌≡◌, ℕ, ◌+◌, List, length, drop, ap, ap₂, sym, ◌∙◌}
use Rattle.ckr_cards.specs.declared.card.Card.{Card}
use Rattle.ckr_cards.specs.declared.lines.InStream.{InStream}
use Rattle.ckr_cards.specs.declared.statement.Statement.{Statement}
use Rattle.ckr_cards.specs.Card.{columns, stored_cards}
use Rattle.ckr_cards.specs.Statement.{statement_of_cards, continuation, calls_first, statement_at, records_in, in_stream}
use Rattle.ckr_cards.proofs.StoredCards.{drop_stored}
use Rattle.ckr_open_deck.specs.StatementHeads.{without_records}
use Rattle.ckr_open_deck.proofs.Statements.{read_without, records_behind_statement, more_of_statement}

-- what its own cards are: those with which its field goes on
pub head-statement : (first : Card) (cards : List Card) (more : List Card) (s : Statement) → more ≡ continuation (calls_first (columns first)) cards → s ≡ statement_of_cards first more → s ≡ without_records (statement_at first cards)
head-statement first cards more s is_more is =
    is ∙ (ap (λ m. statement_of_cards first m) is_more ∙ read_without first cards)

pub head-more : (first : Card) (cards : List Card) (more : List Card) → more ≡ continuation (calls_first (columns first)) cards → more ≡ (statement_at first cards).more
head-more first cards more is_more = is_more ∙ sym (more_of_statement first cards)

-- the cards that are left behind them are those behind them in the deck
pub left-behind : (number next count : ℕ) (left behind : List (List ℕ)) → next ≡ number + count → behind ≡ drop count left → stored_cards next behind ≡ drop count (stored_cards number left)
left-behind number next count left behind following rest =
    ap₂ (λ n l. stored_cards n l) following rest ∙ sym (drop_stored count number left)

-- its records stand there
pub head-records : (first : Card) (cards more behind : List Card) (s : Statement) (ends : InStream) → more ≡ continuation (calls_first (columns first)) cards → s ≡ statement_of_cards first more → ends ≡ in_stream s → behind ≡ drop (length more) cards → records_in ends behind ≡ (statement_at first cards).records
head-records first cards more behind s ends is_more is is_end rest =
    ap₂ (λ e b. records_in e b) (is_end ∙ ap (λ (t : Statement). in_stream t) (head-statement first cards more s is_more is)) (rest ∙ ap (λ (m : List Card). drop (length m) cards) (head-more first cards more is_more))
    ∙ sym (records_behind_statement first cards)
