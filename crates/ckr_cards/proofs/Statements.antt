-- Splitting cards into statements doesn't depend on the fuel.
use Rattle.std.proofs.Common.{◌≡◌, ℕ, zero, suc, ◌≤◌, List, [], ◌∷◌, length, drop, refl, arith}
use Rattle.std.proofs.lemmas.Grind.{common_steps}
use Rattle.ckr_cards.specs.declared.card.Card.{Card}
use Rattle.ckr_cards.specs.Statement.{statement_at, cards_behind, statements_from, statements_of}

-- with enough fuel, more of it changes nothing
pub statements_from-enough : (m n : ℕ) (cards : List Card) → length cards ≤ m → length cards ≤ n → statements_from m cards ≡ statements_from n cards
statements_from-enough zero zero [] a b = refl
statements_from-enough zero (suc n) [] a b = refl
statements_from-enough (suc m) zero [] a b = refl
statements_from-enough (suc m) (suc n) [] a b = refl
statements_from-enough zero n (card ∷ rest) a b = grind arith
statements_from-enough (suc m) zero (card ∷ rest) a b = grind arith
statements_from-enough (suc m) (suc n) (card ∷ rest) a b =
    grind (arith, common_steps, statements_from-enough m n (drop (cards_behind (statement_at card rest)) rest))

-- a deck is its first statement, and the statements behind it
pub statements_of-cons : (card : Card) (rest : List Card) → statements_of (card ∷ rest) ≡ statement_at card rest ∷ statements_of (drop (cards_behind (statement_at card rest)) rest)
unfolding statements_of
statements_of-cons card rest =
    grind (arith, common_steps, statements_from-enough (length rest) (length (drop (cards_behind (statement_at card rest)) rest)) (drop (cards_behind (statement_at card rest)) rest))
