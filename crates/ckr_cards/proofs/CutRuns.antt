-- Cutting one line after the other gives what the items of the stream say.
use Rattle.ckr_cards.specs.declared.lines.InStream.{InStream}
use Rattle.ckr_cards.specs.declared.lines.InStream.TheVariants.{NoRecords}
use Rattle.ckr_cards.specs.declared.cutter.Line.{Line as LineKind}
use Rattle.ckr_cards.specs.declared.cutter.Line.TheVariants.{Card as CardOfDeck, Ends as EndsDeck}
use Rattle.ckr_cards.specs.declared.cutter.CutState.TheVariants.{Outside, Within}
use Rattle.ckr_cards.specs.declared.cutter.Stepped.{Stepped}
use Rattle.std.proofs.Common.{◌≡◌, ℕ, zero, suc, ◌+◌, ◌≤◌, ◌||◌, Bool, true, false, List, [], ◌∷◌, ◌++◌, length, drop, refl, ap, subst, sym, ◌∙◌, arith, if◌then◌else◌}
use Rattle.std.specs.Prelude.{replicate}
use Rattle.std.proofs.lemmas.Grind.{common_steps}
use Rattle.ckr_base.proofs.Bools.{or-assoc}
use native.Mathlib.Nat.{suc-add}
use lib.Seq.{drop-drop}
use Rattle.ckr_cards.specs.declared.card.Card.{Card}
use Rattle.ckr_cards.specs.Card.{card_of, cards_of_lines, columns, is_null}
use Rattle.ckr_cards.specs.Field.{goes_on}
use Rattle.ckr_cards.specs.declared.kind.StatementKind.{StatementKind}
use Rattle.ckr_cards.specs.Statement.{statement_at, cards_behind, statements_of, continuation, continued_field, is_continuation, is_well_placed, calls_again, comes_to_end, records_if, records_in, is_record, kind_of, is_named, first_field, with_more, with_field, bare, records_after}
use Rattle.ckr_cards.specs.Cut.{columns_of, starts_deck, is_command, ends_deck, cards_before_end}
use Rattle.ckr_cards.specs.CutSteps.{stepped, behind_card, behind_continuation, behind_first_card, step_outside, step_between, step_within, step_calling, run}
use mathlib.Core.Bool.{true≢false, false≢true}
use Rattle.ckr_cards.proofs.Statements.{statements_of-cons}
use Rattle.ckr_cards.proofs.CardPlaces.{statement_at-first, drop-fits}

pub cards_of_lines-from : (m n : ℕ) (lines : List (List ℕ)) → m ≡ n → cards_of_lines m lines ≡ cards_of_lines n lines
cards_of_lines-from m n lines same = ap (λ k. cards_of_lines k lines) same

pub drop-cards_of_lines : (k n : ℕ) (lines : List (List ℕ)) → drop k (cards_of_lines n lines) ≡ cards_of_lines (n + k) (drop k lines)
drop-cards_of_lines zero n lines = cards_of_lines-from n (n + 0) lines (omega arith)
drop-cards_of_lines (suc k) n [] = refl
drop-cards_of_lines (suc k) n (line ∷ rest) = drop-cards_of_lines k (n + 1) rest ∙ cards_of_lines-from (n + 1 + k) (n + suc k) (drop k rest) (omega arith)

-- n lines that are cards
abbrev pub card_lines : ℕ → List LineKind
card_lines n = replicate n CardOfDeck

pub card_lines-add : (a b : ℕ) (more : List LineKind) → card_lines (a + b) ++ more ≡ card_lines a ++ (card_lines b ++ more)
card_lines-add zero b more = grind (arith, common_steps)
card_lines-add (suc a) b more = rw (suc-add a b) (ap (λ l. CardOfDeck ∷ l) (card_lines-add a b more))

pub is_record-none : (text : List ℕ) → is_record NoRecords text ≡ false
unfolding is_record
is_record-none text = refl

pub step_within-record : (r : InStream) (line : List ℕ) → is_record r (columns_of line) ≡ true → step_within r line ≡ stepped CardOfDeck (Within r)
unfolding step_within
step_within-record r line record_here = rw record_here refl

pub step_within-other : (r : InStream) (line : List ℕ) → is_record r (columns_of line) ≡ false → step_within r line ≡ step_between line
unfolding step_within
step_within-other r line none = rw none refl

pub step_within-none : (line : List ℕ) → step_within NoRecords line ≡ step_between line
step_within-none line = step_within-other NoRecords line (is_record-none (columns_of line))

-- the list of a step and what follows it
abbrev pub from_step : Stepped → List (List ℕ) → List LineKind
from_step s rest = s.kind ∷ run s.state rest

-- what the records in front of lines are
abbrev pub IsRunWithin : InStream → ℕ → List (List ℕ) → Type 0
IsRunWithin r n lines = run (Within r) lines ≡ card_lines (length (records_in r (cards_of_lines n lines))) ++ run (Within NoRecords) (drop (length (records_in r (cards_of_lines n lines))) lines)

pub run-within_step : (r : InStream) (n : ℕ) (line : List ℕ) (rest : List (List ℕ)) (b : Bool) → is_record r (columns_of line) ≡ b → IsRunWithin r (n + 1) rest → IsRunWithin r n (line ∷ rest)
run-within_step r n line rest true e ih = rw (e, step_within-record r line e) (ap (λ more. CardOfDeck ∷ more) ih)
run-within_step r n line rest false e ih = rw (e, step_within-other r line e, step_within-none line) refl

pub run-within : (r : InStream) (n : ℕ) (lines : List (List ℕ)) → IsRunWithin r n lines
run-within r n [] = refl
run-within r n (line ∷ rest) = run-within_step r n line rest (is_record r (columns_of line)) refl (run-within r (n + 1) rest)

pub step_calling-more : (r : InStream) (line : List ℕ) → is_continuation (columns_of line) ≡ true → step_calling r line ≡ stepped CardOfDeck (behind_continuation r (columns_of line))
unfolding step_calling
step_calling-more r line more = rw more refl

pub step_calling-other : (r : InStream) (line : List ℕ) → is_continuation (columns_of line) ≡ false → step_calling r line ≡ step_within NoRecords line
unfolding step_calling
step_calling-other r line none = rw none (sym (step_within-none line))

-- a well placed continuation card calls for another one as its field does
pub behind_continuation-well : (r : InStream) (text : List ℕ) → is_well_placed text ≡ true → behind_continuation r text ≡ behind_card (goes_on (continued_field text)) r
unfolding behind_continuation
behind_continuation-well r text well = rw well refl

pub behind_continuation-wrong : (r : InStream) (text : List ℕ) → is_well_placed text ≡ false → behind_continuation r text ≡ Within NoRecords
unfolding behind_continuation
behind_continuation-wrong r text wrong = rw wrong refl

pub calls_again-well : (text : List ℕ) → is_well_placed text ≡ true → calls_again text ≡ goes_on (continued_field text)
unfolding calls_again
calls_again-well text well = rw well refl

pub calls_again-wrong : (text : List ℕ) → is_well_placed text ≡ false → calls_again text ≡ false
unfolding calls_again
calls_again-wrong text wrong = rw wrong refl

pub continuation-none : (cards : List Card) → continuation false cards ≡ []
continuation-none [] = refl
continuation-none (card ∷ rest) = refl

-- what the records behind a continuation are
abbrev pub records_behind_continuation : Bool → InStream → List Card → InStream
records_behind_continuation calls r cards = records_if (comes_to_end calls (continuation calls cards)) r

-- what the continuation cards in front of lines are
abbrev pub IsRunBehind : Bool → InStream → ℕ → List (List ℕ) → Type 0
IsRunBehind calls r n lines = run (behind_card calls r) lines ≡ card_lines (length (continuation calls (cards_of_lines n lines))) ++ run (Within (records_behind_continuation calls r (cards_of_lines n lines))) (drop (length (continuation calls (cards_of_lines n lines))) lines)

pub run-continued : (r : InStream) (n : ℕ) (line : List ℕ) (rest : List (List ℕ)) (b : Bool) → is_well_placed (columns_of line) ≡ b → is_continuation (columns_of line) ≡ true → IsRunBehind (goes_on (continued_field (columns_of line))) r (n + 1) rest → IsRunBehind true r n (line ∷ rest)
run-continued r n line rest true well e ih =
    rw (e, step_calling-more r line e, behind_continuation-well r (columns_of line) well, calls_again-well (columns_of line) well, well) (ap (λ more. CardOfDeck ∷ more) ih)
run-continued r n line rest false wrong e ih =
    rw (e, step_calling-more r line e, behind_continuation-wrong r (columns_of line) wrong, calls_again-wrong (columns_of line) wrong, wrong, continuation-none (cards_of_lines (n + 1) rest)) refl

pub run-behind_step : (r : InStream) (n : ℕ) (line : List ℕ) (rest : List (List ℕ)) (b : Bool) → is_continuation (columns_of line) ≡ b → IsRunBehind (goes_on (continued_field (columns_of line))) r (n + 1) rest → IsRunBehind true r n (line ∷ rest)
run-behind_step r n line rest true e ih = run-continued r n line rest (is_well_placed (columns_of line)) refl e ih
run-behind_step r n line rest false e ih = rw (e, step_calling-other r line e) refl

pub run-behind : (calls : Bool) (r : InStream) (n : ℕ) (lines : List (List ℕ)) → IsRunBehind calls r n lines
run-behind true r n [] = refl
run-behind false r n [] = refl
run-behind false r n (line ∷ rest) = refl
run-behind true r n (line ∷ rest) = run-behind_step r n line rest (is_continuation (columns_of line)) refl (run-behind (goes_on (continued_field (columns_of line))) r (n + 1) rest)

-- `k` lines are cards, and then a statement is to begin
abbrev pub AreCards : List LineKind → ℕ → List (List ℕ) → Type 0
AreCards kinds k lines = kinds ≡ card_lines k ++ run (Within NoRecords) (drop k lines)

pub behind-join : (kinds : List LineKind) (a b : ℕ) (r : InStream) (rest : List (List ℕ)) → kinds ≡ card_lines a ++ run (Within r) (drop a rest) → AreCards (run (Within r) (drop a rest)) b (drop a rest) → AreCards kinds (a + b) rest
behind-join kinds a b r rest first second =
    first ∙ (ap (λ l. card_lines a ++ l) second
    ∙ (sym (card_lines-add a b (run (Within NoRecords) (drop b (drop a rest))))
    ∙ ap (λ l. card_lines (a + b) ++ run (Within NoRecords) l) (drop-drop b a rest)))

-- the records behind `a` lines
pub run-within_drop : (r : InStream) (n a : ℕ) (rest : List (List ℕ)) → AreCards (run (Within r) (drop a rest)) (length (records_in r (drop a (cards_of_lines n rest)))) (drop a rest)
run-within_drop r n a rest =
    subst (λ cards. AreCards (run (Within r) (drop a rest)) (length (records_in r cards)) (drop a rest)) (sym (drop-cards_of_lines a n rest))
    (run-within r (n + a) (drop a rest))

-- what a first card calls for, and the records behind its continuation
abbrev pub continuation_behind : ℕ → List ℕ → List (List ℕ) → List Card
continuation_behind n line rest = continuation (goes_on (first_field (columns_of line))) (cards_of_lines (n + 1) rest)

abbrev pub records_at : ℕ → List ℕ → List (List ℕ) → InStream
records_at n line rest = records_behind_continuation (goes_on (first_field (columns_of line))) (records_after (columns_of line)) (cards_of_lines (n + 1) rest)

pub run-named : (kind : StatementKind) (n : ℕ) (line : List ℕ) (rest : List (List ℕ)) → AreCards (run (behind_card (goes_on (first_field (columns_of line))) (records_after (columns_of line))) rest) (cards_behind (with_more kind (card_of n line) (continuation (goes_on (first_field (columns_of line))) (cards_of_lines (n + 1) rest)) (cards_of_lines (n + 1) rest))) rest
unfolding with_more with_field
run-named kind n line rest =
    behind-join _ (length (continuation_behind n line rest)) _ (records_at n line rest) rest
    (run-behind (goes_on (first_field (columns_of line))) (records_after (columns_of line)) (n + 1) rest)
    (run-within_drop (records_at n line rest) (n + 1) (length (continuation_behind n line rest)) rest)

pub run-chosen : (named : Bool) (kind : StatementKind) (n : ℕ) (line : List ℕ) (rest : List (List ℕ)) → AreCards (run (if named then behind_card (goes_on (first_field (columns_of line))) (records_after (columns_of line)) else Within NoRecords) rest) (cards_behind (if named then with_more kind (card_of n line) (continuation (goes_on (first_field (columns_of line))) (cards_of_lines (n + 1) rest)) (cards_of_lines (n + 1) rest) else bare kind (card_of n line))) rest
unfolding bare
run-chosen true kind n line rest = run-named kind n line rest
run-chosen false kind n line rest = refl

-- the lines of a statement behind its first one are cards
pub run-statement : (n : ℕ) (line : List ℕ) (rest : List (List ℕ)) → AreCards (run (behind_first_card (columns_of line)) rest) (cards_behind (statement_at (card_of n line) (cards_of_lines (n + 1) rest))) rest
unfolding behind_first_card statement_at
run-statement n line rest = run-chosen (is_named (kind_of (columns_of line))) (kind_of (columns_of line)) n line rest

pub none-fits : {X : Type 0} (x : X) (xs : List X) → length (x ∷ xs) ≤ 0 → ⊥
none-fits x xs fits = grind arith

-- ---- a deck

-- what lines are, where a deck has ended before them
abbrev pub ended : List (List ℕ) → List LineKind
ended [] = []
ended (line ∷ rest) = if is_null (columns_of line) then EndsDeck ∷ run Outside rest else run Outside (line ∷ rest)

abbrev pub ends_line : List ℕ → Bool
ends_line line = is_null (columns_of line) || starts_deck (columns_of line) || is_command (columns_of line)

pub ends_deck-statement_at : (n : ℕ) (line : List ℕ) (rest : List Card) → ends_deck (statement_at (card_of n line) rest) ≡ ends_line line
unfolding ends_deck
ends_deck-statement_at n line rest =
    ap (λ (card : Card). is_null (columns card) || starts_deck (columns card) || is_command (columns card)) (statement_at-first (card_of n line) rest)

pub between-ended : (null starts : Bool) (line : List ℕ) (rest : List (List ℕ)) → (null || starts) ≡ true → from_step (if null then stepped EndsDeck Outside else (if starts then step_outside line else stepped CardOfDeck (behind_first_card (columns_of line)))) rest ≡ (if null then EndsDeck ∷ run Outside rest else run Outside (line ∷ rest))
between-ended true starts line rest ends = refl
between-ended false true line rest ends = refl
between-ended false false line rest ends = absurd (false≢true ends)

pub step_between-ends : (line : List ℕ) (rest : List (List ℕ)) → ends_line line ≡ true → from_step (step_between line) rest ≡ ended (line ∷ rest)
unfolding step_between
step_between-ends line rest ends =
    between-ended (is_null (columns_of line)) (starts_deck (columns_of line) || is_command (columns_of line)) line rest (sym (or-assoc (is_null (columns_of line)) (starts_deck (columns_of line)) (is_command (columns_of line))) ∙ ends)

pub between-goes_on : (null starts : Bool) (line : List ℕ) → (null || starts) ≡ false → (if null then stepped EndsDeck Outside else (if starts then step_outside line else stepped CardOfDeck (behind_first_card (columns_of line)))) ≡ stepped CardOfDeck (behind_first_card (columns_of line))
between-goes_on true starts line ends = absurd (true≢false ends)
between-goes_on false true line ends = absurd (true≢false ends)
between-goes_on false false line ends = refl

pub step_between-goes_on : (line : List ℕ) → ends_line line ≡ false → step_between line ≡ stepped CardOfDeck (behind_first_card (columns_of line))
unfolding step_between
step_between-goes_on line ends =
    between-goes_on (is_null (columns_of line)) (starts_deck (columns_of line) || is_command (columns_of line)) line (sym (or-assoc (is_null (columns_of line)) (starts_deck (columns_of line)) (is_command (columns_of line))) ∙ ends)

-- the lines up to the end of the deck are cards
abbrev pub before_end : ℕ → List (List ℕ) → ℕ
before_end n lines = cards_before_end (statements_of (cards_of_lines n lines))

abbrev pub IsDeckRun : List LineKind → ℕ → List (List ℕ) → Type 0
IsDeckRun kinds q lines = kinds ≡ card_lines q ++ ended (drop q lines)

pub deck-join : (kinds : List LineKind) (k m : ℕ) (rest : List (List ℕ)) → AreCards kinds k rest → IsDeckRun (run (Within NoRecords) (drop k rest)) m (drop k rest) → IsDeckRun kinds (k + m) rest
deck-join kinds k m rest first second =
    first ∙ (ap (λ l. card_lines k ++ l) second
    ∙ (sym (card_lines-add k m (ended (drop m (drop k rest))))
    ∙ ap (λ l. card_lines (k + m) ++ ended l) (drop-drop m k rest)))

pub deck-cons : (kinds : List LineKind) (q p : ℕ) (line : List ℕ) (rest : List (List ℕ)) → p ≡ suc q → IsDeckRun kinds q rest → IsDeckRun (CardOfDeck ∷ kinds) p (line ∷ rest)
deck-cons kinds q p line rest same is_run =
    subst (λ w. IsDeckRun (CardOfDeck ∷ kinds) w (line ∷ rest)) (sym same) (ap (λ l. CardOfDeck ∷ l) is_run)

-- the cards behind a statement, up to the end of the deck
abbrev pub behind_statement : ℕ → List ℕ → List (List ℕ) → ℕ
behind_statement n line rest = cards_behind (statement_at (card_of n line) (cards_of_lines (n + 1) rest))

abbrev pub rest_of_deck : ℕ → List ℕ → List (List ℕ) → ℕ
rest_of_deck n line rest = cards_before_end (statements_of (drop (behind_statement n line rest) (cards_of_lines (n + 1) rest)))

pub rest_of_deck-before_end : (n : ℕ) (line : List ℕ) (rest : List (List ℕ)) → rest_of_deck n line rest ≡ before_end (n + 1 + behind_statement n line rest) (drop (behind_statement n line rest) rest)
rest_of_deck-before_end n line rest = ap (λ cards. cards_before_end (statements_of cards)) (drop-cards_of_lines (behind_statement n line rest) (n + 1) rest)

-- where a statement begins, what the lines behind it are up to the end of the deck
pub run-start : (n : ℕ) (line : List ℕ) (rest : List (List ℕ)) → IsDeckRun (run (Within NoRecords) (drop (behind_statement n line rest) rest)) (before_end (n + 1 + behind_statement n line rest) (drop (behind_statement n line rest) rest)) (drop (behind_statement n line rest) rest) → IsDeckRun (run (behind_first_card (columns_of line)) rest) (behind_statement n line rest + rest_of_deck n line rest) rest
run-start n line rest ih =
    deck-join _ (behind_statement n line rest) (rest_of_deck n line rest) rest (run-statement n line rest)
    (subst (λ m. IsDeckRun (run (Within NoRecords) (drop (behind_statement n line rest) rest)) m (drop (behind_statement n line rest) rest)) (sym (rest_of_deck-before_end n line rest)) ih)

pub plus-one : (k m : ℕ) → k + 1 + m ≡ suc (k + m)
plus-one k m = omega arith

pub deck_run-step : (n : ℕ) (line : List ℕ) (rest : List (List ℕ)) (ends : Bool) → ends_line line ≡ ends → IsDeckRun (run (behind_first_card (columns_of line)) rest) (behind_statement n line rest + rest_of_deck n line rest) rest → IsDeckRun (from_step (step_within NoRecords line) rest) (if ends then 0 else behind_statement n line rest + 1 + rest_of_deck n line rest) (line ∷ rest)
deck_run-step n line rest true e start = rw (step_within-none line) (step_between-ends line rest e)
deck_run-step n line rest false e start =
    rw (step_within-none line, step_between-goes_on line e)
    (deck-cons _ (behind_statement n line rest + rest_of_deck n line rest) _ line rest (plus-one (behind_statement n line rest) (rest_of_deck n line rest)) start)

pub before_end-cons : (n : ℕ) (line : List ℕ) (rest : List (List ℕ)) → before_end n (line ∷ rest) ≡ (if ends_line line then 0 else behind_statement n line rest + 1 + rest_of_deck n line rest)
before_end-cons n line rest =
    ap cards_before_end (statements_of-cons (card_of n line) (cards_of_lines (n + 1) rest))
    ∙ ap (λ (ends : Bool). if ends then 0 else behind_statement n line rest + 1 + rest_of_deck n line rest) (ends_deck-statement_at n line (cards_of_lines (n + 1) rest))

pub deck_run : (fuel n : ℕ) (lines : List (List ℕ)) → length lines ≤ fuel → IsDeckRun (run (Within NoRecords) lines) (before_end n lines) lines
unfolding statements_of
deck_run zero n [] fits = refl
deck_run (suc fuel) n [] fits = refl
deck_run zero n (line ∷ rest) fits = absurd (none-fits line rest fits)
deck_run (suc fuel) n (line ∷ rest) fits =
    subst (λ m. IsDeckRun (run (Within NoRecords) (line ∷ rest)) m (line ∷ rest)) (sym (before_end-cons n line rest))
    (deck_run-step n line rest (ends_line line) refl
    (run-start n line rest (deck_run fuel (n + 1 + behind_statement n line rest) (drop (behind_statement n line rest) rest) (drop-fits (behind_statement n line rest) fuel line rest fits))))
