-- Each card stands in exactly one statement, in its order.
use Rattle.ckr_cards.specs.declared.lines.InStream.{InStream}
use Rattle.std.proofs.Common.{◌≡◌, ℕ, zero, suc, ◌+◌, ◌≤◌, Bool, true, false, List, [], ◌∷◌, ◌++◌, length, drop, refl, ap₂, arith, if◌then◌else◌}
use Rattle.std.proofs.lemmas.Grind.{common_steps}
use lib.Seq.{drop-drop}
use Rattle.ckr_cards.specs.declared.card.Card.{Card}
use Rattle.ckr_cards.specs.Card.{columns}
use Rattle.ckr_cards.specs.Field.{goes_on}
use Rattle.ckr_cards.specs.declared.kind.StatementKind.{StatementKind}
use Rattle.ckr_cards.specs.declared.statement.Statement.{Statement}
use Rattle.ckr_cards.specs.Statement.{statement_at, cards_behind, statements_from, statements_of, cards_in, continuation, calls_again, records_in, kind_of, is_named, with_more, with_field, bare, first_field}

-- the continuation is a front part of the cards
pub continuation-front : (calls : Bool) (cards : List Card) → continuation calls cards ++ drop (length (continuation calls cards)) cards ≡ cards
continuation-front calls [] = refl
continuation-front calls (card ∷ rest) = grind (arith, common_steps, continuation-front (calls_again (columns card)) rest)

-- so are the records
pub records_in-front : (ends : InStream) (cards : List Card) → records_in ends cards ++ drop (length (records_in ends cards)) cards ≡ cards
records_in-front ends [] = refl
records_in-front ends (card ∷ rest) = grind (arith, common_steps, records_in-front ends rest)

pub drop-fits : {X : Type 0} (k m : ℕ) (x : X) (xs : List X) → length (x ∷ xs) ≤ suc m → length (drop k xs) ≤ m
drop-fits k m x xs fits = grind (arith, common_steps)

-- two front parts, one behind the other
pub fronts-join : {X : Type 0} (a b xs : List X) → a ++ drop (length a) xs ≡ xs → b ++ drop (length b) (drop (length a) xs) ≡ drop (length a) xs → a ++ (b ++ drop (length a + length b) xs) ≡ xs
fronts-join a b xs first second = rw (← drop-drop (length b) (length a) xs, second) first

-- what a statement has behind its first card, and what comes behind it
abbrev pub behind_in : Statement → List Card → List Card
behind_in s rest = s.more ++ (s.records ++ drop (cards_behind s) rest)

pub with_more-front : (kind : StatementKind) (first : Card) (calls : Bool) (rest : List Card) → behind_in (with_more kind first (continuation calls rest) rest) rest ≡ rest
unfolding with_more with_field
with_more-front kind first calls rest =
    fronts-join (continuation calls rest) _ rest (continuation-front calls rest) (records_in-front _ _)

pub chosen-front : (named : Bool) (kind : StatementKind) (first : Card) (calls : Bool) (rest : List Card) → behind_in (if named then with_more kind first (continuation calls rest) rest else bare kind first) rest ≡ rest
unfolding bare
chosen-front true kind first calls rest = with_more-front kind first calls rest
chosen-front false kind first calls rest = refl

pub chosen-first : (named : Bool) (kind : StatementKind) (first : Card) (more : List Card) (rest : List Card) → (if named then with_more kind first more rest else bare kind first).first ≡ first
unfolding bare with_more with_field
chosen-first true kind first more rest = refl
chosen-first false kind first more rest = refl

pub statement_at-front : (first : Card) (rest : List Card) → behind_in (statement_at first rest) rest ≡ rest
unfolding statement_at
statement_at-front first rest = chosen-front (is_named (kind_of (columns first))) (kind_of (columns first)) first (goes_on (first_field (columns first))) rest

pub statement_at-first : (first : Card) (rest : List Card) → (statement_at first rest).first ≡ first
unfolding statement_at
statement_at-first first rest = chosen-first (is_named (kind_of (columns first))) (kind_of (columns first)) first (continuation (goes_on (first_field (columns first))) rest) rest

pub cards_in-statements_from : (fuel : ℕ) (cards : List Card) → length cards ≤ fuel → cards_in (statements_from fuel cards) ≡ cards
cards_in-statements_from zero [] fits = refl
cards_in-statements_from (suc fuel) [] fits = refl
cards_in-statements_from zero (card ∷ rest) fits = grind arith
cards_in-statements_from (suc fuel) (card ∷ rest) fits =
    rw (cards_in-statements_from fuel (drop (cards_behind (statement_at card rest)) rest) (drop-fits (cards_behind (statement_at card rest)) fuel card rest fits))
    (ap₂ (λ c more. c ∷ more) (statement_at-first card rest) (statement_at-front card rest))

-- splitting loses no card and moves none
pub cards_in-statements_of : (cards : List Card) → cards_in (statements_of cards) ≡ cards
unfolding statements_of
cards_in-statements_of cards = cards_in-statements_from (length cards) cards (grind arith)
