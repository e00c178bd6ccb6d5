-- What each line of a stream is can be told one line after the other.
use Rattle.ckr_cards.specs.declared.cutter.Line.{Line as LineKind}
use Rattle.ckr_cards.specs.declared.cutter.Line.TheVariants.{Starts as StartsDeck, Card as CardOfDeck, Ends as EndsDeck, Command as CommandLine, Stray as StrayLine, Ignored as IgnoredLine}
use Rattle.ckr_cards.specs.declared.cutter.CutState.{CutState}
use Rattle.ckr_cards.specs.declared.cutter.CutState.TheVariants.{Outside}
use Rattle.std.proofs.Common.{◌≡◌, ℕ, zero, suc, ◌+◌, ◌-◌, ◌≤◌, Bool, true, false, List, [], ◌∷◌, ◌++◌, length, take, drop, refl, ap, subst, sym, ◌∙◌, arith, if◌then◌else◌, length-append}
use Rattle.std.specs.Prelude.{replicate}
use Rattle.std.proofs.lemmas.Grind.{common_steps}
use Rattle.ckr_cards.specs.Card.{card_of, cards_of_lines, is_null, is_comment, is_delimiter, has_slashes}
use Rattle.ckr_cards.specs.Statement.{kind_of}
use Rattle.ckr_cards.specs.Cut.{Item, NumberedItem, columns_of, starts_deck, is_command, is_ignored, deck_length, cards_from_start, lines_taken, single_item, item_at, items_from, items_of_lines, kinds_of, kinds_from, is_deck, line_kinds}
use Rattle.ckr_cards.specs.Cut.Item.{DeckOf, Command, Refused, Ignored}
use Rattle.ckr_cards.specs.CutSteps.{stepped, behind_first_card, step_outside, step, run}
use Rattle.ckr_cards.proofs.Statements.{statements_of-cons}
use Rattle.ckr_cards.proofs.CutRuns.{card_lines, ended, IsDeckRun, behind_statement, rest_of_deck, run-start, deck_run, plus-one, none-fits, from_step}
use Rattle.ckr_cards.proofs.CutLines.{drop-fits_pos, lines_taken-pos}

-- a line that starts a deck is no null card
pub starts_deck-null : (text : List ℕ) → starts_deck text ≡ true → is_null text ≡ false
unfolding starts_deck kind_of is_comment is_delimiter
starts_deck-null text starts = grind (arith, common_steps)

pub is_null-command : (text : List ℕ) → is_null text ≡ true → is_command text ≡ false
unfolding is_command is_null has_slashes
is_null-command [] null = refl
is_null-command (byte ∷ rest) null = grind (arith, common_steps)

pub is_null-ignored : (line : List ℕ) → is_null (columns_of line) ≡ true → is_ignored line ≡ true
unfolding is_ignored
is_null-ignored line null = grind (arith, common_steps)

pub length-run : (state : CutState) (lines : List (List ℕ)) → length (run state lines) ≡ length lines
length-run state [] = refl
length-run state (line ∷ rest) = ap (λ n. suc n) (length-run (step state line).state rest)

pub length-replicate : (n : ℕ) (kind : LineKind) → length (replicate n kind) ≡ n
length-replicate zero kind = refl
length-replicate (suc n) kind = ap (λ m. suc m) (length-replicate n kind)

-- a front part of as many lines is no longer than the lines
pub front-fits : (q n : ℕ) (kinds more : List LineKind) → kinds ≡ card_lines q ++ more → length kinds ≡ n → q ≤ n
front-fits q n kinds more same size =
    subst (λ m. q ≤ m) (sym (ap length same) ∙ size) (rw (length-append (card_lines q) more, length-replicate q CardOfDeck) (omega arith))

-- what lines are, where a deck stands before them or doesn't
abbrev pub outer : Bool → List (List ℕ) → List LineKind
outer false lines = run Outside lines
outer true lines = ended lines

-- ---- where a deck starts

pub count-lines : (q : ℕ) (line : List ℕ) (rest : List (List ℕ)) → q ≤ length rest → length (take (suc q) (line ∷ rest)) - 1 ≡ q
count-lines q line rest fits = grind (arith, common_steps)

pub start-list : (t q : ℕ) (line : List ℕ) (rest : List (List ℕ)) (kinds : List LineKind) → t ≡ suc q → IsDeckRun kinds q rest → q ≤ length rest → (StartsDeck ∷ replicate (length (take t (line ∷ rest)) - 1) CardOfDeck) ++ ended (drop t (line ∷ rest)) ≡ StartsDeck ∷ kinds
start-list t q line rest kinds same is_run fits =
    subst (λ w. (StartsDeck ∷ replicate (length (take w (line ∷ rest)) - 1) CardOfDeck) ++ ended (drop w (line ∷ rest)) ≡ StartsDeck ∷ kinds) (sym same)
    (ap (λ c. (StartsDeck ∷ replicate c CardOfDeck) ++ ended (drop q rest)) (count-lines q line rest fits) ∙ ap (λ l. StartsDeck ∷ l) (sym is_run))

pub deck_length-start : (line : List ℕ) (rest : List (List ℕ)) → deck_length (line ∷ rest) ≡ suc (behind_statement 1 line rest + rest_of_deck 1 line rest)
unfolding deck_length
deck_length-start line rest =
    ap cards_from_start (statements_of-cons (card_of 1 line) (cards_of_lines 2 rest)) ∙ plus-one (behind_statement 1 line rest) (rest_of_deck 1 line rest)

pub lines_taken-start : (line : List ℕ) (rest : List (List ℕ)) → starts_deck (columns_of line) ≡ true → lines_taken line rest ≡ deck_length (line ∷ rest)
unfolding lines_taken
lines_taken-start line rest starts = rw starts refl

pub lines_taken-single : (line : List ℕ) (rest : List (List ℕ)) → starts_deck (columns_of line) ≡ false → lines_taken line rest ≡ 1
unfolding lines_taken
lines_taken-single line rest starts = rw starts refl

pub item_at-start : (t : ℕ) (line : List ℕ) (rest : List (List ℕ)) → starts_deck (columns_of line) ≡ true → item_at t line rest ≡ DeckOf (take t (line ∷ rest))
unfolding item_at
item_at-start t line rest starts = rw starts refl

pub item_at-single : (t : ℕ) (line : List ℕ) (rest : List (List ℕ)) → starts_deck (columns_of line) ≡ false → item_at t line rest ≡ single_item line
unfolding item_at
item_at-single t line rest starts = rw starts refl

pub step_outside-start : (line : List ℕ) → starts_deck (columns_of line) ≡ true → step_outside line ≡ stepped StartsDeck (behind_first_card (columns_of line))
unfolding step_outside
step_outside-start line starts = rw starts refl

-- behind the first line of a deck
pub start-run : (line : List ℕ) (rest : List (List ℕ)) → IsDeckRun (run (behind_first_card (columns_of line)) rest) (behind_statement 1 line rest + rest_of_deck 1 line rest) rest
start-run line rest =
    run-start 1 line rest (deck_run (length (drop (behind_statement 1 line rest) rest)) (2 + behind_statement 1 line rest) (drop (behind_statement 1 line rest) rest) (le-self _))
  where
    le-self : (n : ℕ) → n ≤ n
    le-self n = omega arith

pub outer-start : (b : Bool) (line : List ℕ) (rest : List (List ℕ)) → starts_deck (columns_of line) ≡ true → outer b (line ∷ rest) ≡ StartsDeck ∷ run (behind_first_card (columns_of line)) rest
outer-start false line rest starts = ap (λ s. from_step s rest) (step_outside-start line starts)
outer-start true line rest starts = rw (starts_deck-null (columns_of line) starts) (ap (λ s. from_step s rest) (step_outside-start line starts))

pub taken-start : (line : List ℕ) (rest : List (List ℕ)) → starts_deck (columns_of line) ≡ true → lines_taken line rest ≡ suc (behind_statement 1 line rest + rest_of_deck 1 line rest)
taken-start line rest starts = lines_taken-start line rest starts ∙ deck_length-start line rest

pub start-kinds : (b : Bool) (line : List ℕ) (rest : List (List ℕ)) → starts_deck (columns_of line) ≡ true → (StartsDeck ∷ replicate (length (take (lines_taken line rest) (line ∷ rest)) - 1) CardOfDeck) ++ ended (drop (lines_taken line rest) (line ∷ rest)) ≡ outer b (line ∷ rest)
start-kinds b line rest starts =
    start-list (lines_taken line rest) (behind_statement 1 line rest + rest_of_deck 1 line rest) line rest _ (taken-start line rest starts) (start-run line rest) (front-fits _ (length rest) _ _ (start-run line rest) (length-run _ rest))
    ∙ sym (outer-start b line rest starts)

-- the kinds of an item, and of those behind it
abbrev pub item_kinds : Bool → Item → List NumberedItem → List LineKind
item_kinds b item more = kinds_of b item ++ kinds_from (is_deck item) more

pub law-start : (b : Bool) (line : List ℕ) (rest : List (List ℕ)) (more : List NumberedItem) → starts_deck (columns_of line) ≡ true → kinds_from true more ≡ ended (drop (lines_taken line rest) (line ∷ rest)) → item_kinds b (item_at (lines_taken line rest) line rest) more ≡ outer b (line ∷ rest)
law-start b line rest more starts ih =
    ap (λ item. item_kinds b item more) (item_at-start (lines_taken line rest) line rest starts)
    ∙ (ap (λ l. (StartsDeck ∷ replicate (length (take (lines_taken line rest) (line ∷ rest)) - 1) CardOfDeck) ++ l) ih
    ∙ start-kinds b line rest starts)

-- ---- where none starts

pub single-outside : (command ignored : Bool) (line : List ℕ) (rest : List (List ℕ)) (more : List NumberedItem) → kinds_from false more ≡ run Outside rest → item_kinds false (if command then Command line else (if ignored then Ignored line else Refused line)) more ≡ from_step (if command then stepped CommandLine Outside else (if ignored then stepped IgnoredLine Outside else stepped StrayLine Outside)) rest
single-outside true ignored line rest more ih = ap (λ l. CommandLine ∷ l) ih
single-outside false true line rest more ih = ap (λ l. IgnoredLine ∷ l) ih
single-outside false false line rest more ih = ap (λ l. StrayLine ∷ l) ih

pub law-single_outside : (line : List ℕ) (rest : List (List ℕ)) (more : List NumberedItem) → starts_deck (columns_of line) ≡ false → kinds_from false more ≡ run Outside rest → item_kinds false (single_item line) more ≡ run Outside (line ∷ rest)
unfolding single_item step_outside
law-single_outside line rest more starts ih = rw starts (single-outside (is_command (columns_of line)) (is_ignored line) line rest more ih)

pub law-single_null : (line : List ℕ) (rest : List (List ℕ)) (more : List NumberedItem) → is_null (columns_of line) ≡ true → kinds_from false more ≡ run Outside rest → item_kinds true (single_item line) more ≡ EndsDeck ∷ run Outside rest
unfolding single_item
law-single_null line rest more null ih = rw (is_null-command (columns_of line) null, is_null-ignored line null, null) (ap (λ l. EndsDeck ∷ l) ih)

-- a line that is no null card is the same behind a deck
pub kinds-behind : (command ignored : Bool) (line : List ℕ) (more : List NumberedItem) → is_null (columns_of line) ≡ false → item_kinds true (if command then Command line else (if ignored then Ignored line else Refused line)) more ≡ item_kinds false (if command then Command line else (if ignored then Ignored line else Refused line)) more
kinds-behind true ignored line more null = refl
kinds-behind false true line more null = rw null refl
kinds-behind false false line more null = refl

pub law-single_behind : (null : Bool) (line : List ℕ) (rest : List (List ℕ)) (more : List NumberedItem) → is_null (columns_of line) ≡ null → starts_deck (columns_of line) ≡ false → kinds_from false more ≡ run Outside rest → item_kinds true (single_item line) more ≡ (if null then EndsDeck ∷ run Outside rest else run Outside (line ∷ rest))
unfolding single_item
law-single_behind true line rest more null starts ih = law-single_null line rest more null ih
law-single_behind false line rest more null starts ih =
    kinds-behind (is_command (columns_of line)) (is_ignored line) line more null ∙ law-single_outside line rest more starts ih

pub law-single : (b : Bool) (line : List ℕ) (rest : List (List ℕ)) (more : List NumberedItem) → starts_deck (columns_of line) ≡ false → kinds_from false more ≡ run Outside rest → item_kinds b (single_item line) more ≡ outer b (line ∷ rest)
law-single false line rest more starts ih = law-single_outside line rest more starts ih
law-single true line rest more starts ih = law-single_behind (is_null (columns_of line)) line rest more refl starts ih

-- ---- the law

abbrev pub items_behind : ℕ → ℕ → List ℕ → List (List ℕ) → List NumberedItem
items_behind fuel number line rest = items_from fuel (number + lines_taken line rest) (drop (lines_taken line rest) (line ∷ rest))

pub law-chosen : (starts b : Bool) (fuel number : ℕ) (line : List ℕ) (rest : List (List ℕ)) → starts_deck (columns_of line) ≡ starts → ((c : Bool) → kinds_from c (items_behind fuel number line rest) ≡ outer c (drop (lines_taken line rest) (line ∷ rest))) → item_kinds b (item_at (lines_taken line rest) line rest) (items_behind fuel number line rest) ≡ outer b (line ∷ rest)
law-chosen true b fuel number line rest starts ih = law-start b line rest (items_behind fuel number line rest) starts (ih true)
law-chosen false b fuel number line rest starts ih =
    ap (λ item. item_kinds b item (items_behind fuel number line rest)) (item_at-single (lines_taken line rest) line rest starts)
    ∙ law-single b line rest (items_behind fuel number line rest) starts (ih false ∙ ap (λ k. run Outside (drop k (line ∷ rest))) (lines_taken-single line rest starts))

pub kinds_from-items_from : (fuel number : ℕ) (b : Bool) (lines : List (List ℕ)) → length lines ≤ fuel → kinds_from b (items_from fuel number lines) ≡ outer b lines
kinds_from-items_from zero number true [] fits = refl
kinds_from-items_from zero number false [] fits = refl
kinds_from-items_from (suc fuel) number true [] fits = refl
kinds_from-items_from (suc fuel) number false [] fits = refl
kinds_from-items_from zero number b (line ∷ rest) fits = absurd (none-fits line rest fits)
kinds_from-items_from (suc fuel) number b (line ∷ rest) fits =
    law-chosen (starts_deck (columns_of line)) b fuel number line rest refl
    (λ c. kinds_from-items_from fuel (number + lines_taken line rest) c (drop (lines_taken line rest) (line ∷ rest)) (drop-fits_pos (lines_taken line rest) fuel line rest (lines_taken-pos line rest) fits))

-- the kinds of the lines are those of the steps from the start on
pub line_kinds-run : (lines : List (List ℕ)) → line_kinds lines ≡ run Outside lines
unfolding line_kinds items_of_lines
line_kinds-run lines = kinds_from-items_from (length lines) 1 false lines (grind arith)
