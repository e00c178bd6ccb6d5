-- A deck is read statement by statement.
use Rattle.std.proofs.Common.{◌≡◌, ℕ, ◌+◌, ◌≤◌, List, [], ◌∷◌, ◌++◌, length, drop, refl, subst, ap, suc, sym, ◌∙◌, arith, length-append}
use Rattle.ckr_cards.specs.declared.card.Card.{Card}
use Rattle.ckr_cards.specs.declared.statement.Statement.{Statement}
use Rattle.ckr_cards.specs.Card.{stored_card, stored_cards}
use Rattle.ckr_cards.specs.Statement.{statement_at, statements_of, cards_behind}
use Rattle.ckr_cards.proofs.Statements.{statements_of-cons}
use Rattle.ckr_cards.proofs.StoredCards.{drop_stored}
use Rattle.ckr_cards.proofs.CardPlaces.{behind_in, statement_at-front}

-- a statement has no more cards than there are
pub behind_fits : (first : Card) (rest : List Card) → cards_behind (statement_at first rest) ≤ length rest
behind_fits first rest = fits (statement_at first rest) rest (statement_at-front first rest)
  where
    fits : (s : Statement) (rest : List Card) → behind_in s rest ≡ rest → cards_behind s ≤ length rest
    fits s rest same = omega (arith, sym (ap length same), length-append s.more (s.records ++ drop (cards_behind s) rest), length-append s.records (drop (cards_behind s) rest))

pub length-stored_cards : (n : ℕ) (cards : List (List ℕ)) → length (stored_cards n cards) ≡ length cards
length-stored_cards n [] = refl
length-stored_cards n (card ∷ rest) = ap (λ m. suc m) (length-stored_cards (n + 1) rest)

-- the statement that begins with a stored card
abbrev pub statement_in : ℕ → List ℕ → List (List ℕ) → Statement
statement_in number first more = statement_at (stored_card number first) (stored_cards (number + 1) more)

pub stored_fits : (number : ℕ) (first : List ℕ) (more : List (List ℕ)) → cards_behind (statement_in number first more) ≤ length more
stored_fits number first more = rw (length-stored_cards (number + 1) more) at (behind_fits (stored_card number first) (stored_cards (number + 1) more))

pub behind_is_inside : (s : Statement) (number : ℕ) (first : List ℕ) (more : List (List ℕ)) → s ≡ statement_at (stored_card number first) (stored_cards (number + 1) more) → cards_behind s ≤ length more
behind_is_inside s number first more same = subst (λ t. cards_behind t ≤ length more) (sym same) (stored_fits number first more)

-- a deck is its first statement, and those behind it
pub statements_step : (number : ℕ) (first : List ℕ) (more : List (List ℕ)) (s : Statement) → s ≡ statement_in number first more → statements_of (stored_cards number (first ∷ more)) ≡ s ∷ statements_of (stored_cards (number + 1 + cards_behind s) (drop (cards_behind s) more))
statements_step number first more s same =
    statements_of-cons (stored_card number first) (stored_cards (number + 1) more)
    ∙ (ap (λ t. t ∷ statements_of (drop (cards_behind t) (stored_cards (number + 1) more))) (sym same)
    ∙ ap (λ cards. s ∷ statements_of cards) (drop_stored (cards_behind s) (number + 1) more))

-- where no card is left, no statement is
pub no_statements : statements_of [] ≡ []
unfolding statements_of
no_statements = refl
