-- The items of a stream are those that end line by line.
use Rattle.ckr_cards.specs.declared.cutter.Line.{Line as LineKind}
use Rattle.ckr_cards.specs.declared.cutter.Line.TheVariants.{Starts as StartsDeck, Card as CardOfDeck, Ends as EndsDeck, Command as CommandLine, Stray as StrayLine, Ignored as IgnoredLine}
use Rattle.std.proofs.Common.{◌≡◌, ℕ, zero, suc, ◌+◌, ◌-◌, ◌≤◌, Bool, true, false, List, [], ◌∷◌, ◌++◌, length, take, drop, refl, ap, ap₂, subst, sym, ◌∙◌, arith, if◌then◌else◌, append_assoc, append-nil, take-append-drop, length-take}
use Rattle.std.specs.Prelude.{replicate}
use Rattle.ckr_base.proofs.Numbers.{suc-minus}
use Rattle.ckr_cards.specs.Card.{is_null}
use Rattle.ckr_cards.specs.Cut.{Item, NumberedItem, columns_of, starts_deck, is_command, is_ignored, lines_taken, single_item, item_at, items_from, items_of_lines, kinds_of, kinds_from, is_deck, line_kinds}
use Rattle.ckr_cards.specs.Cut.Item.{DeckOf, Command, Refused, Ignored}
use Rattle.ckr_cards.specs.CutSteps.{run}
use Rattle.ckr_cards.specs.CutProgress.{CutProgress, begin, ended_deck, deck_before, item_alone, deck_behind, items_with, line_items, behind, ended_items, behind_all, items_behind}
use Rattle.ckr_cards.proofs.CutRuns.{behind_statement, rest_of_deck, none-fits}
use Rattle.ckr_cards.proofs.CutLaw.{front-fits, start-run, length-run, taken-start, item_at-start, item_at-single, lines_taken-single, line_kinds-run}
use Rattle.ckr_cards.proofs.CutLines.{drop-fits_pos, lines_taken-pos}

-- ---- items by the kinds of the lines

abbrev pub grouped : List (List ℕ) → ℕ → List LineKind → List (List ℕ) → List NumberedItem
grouped deck number [] lines = ended_deck number deck
grouped deck number (kind ∷ kinds) [] = ended_deck number deck
grouped deck number (kind ∷ kinds) (line ∷ rest) = items_with kind number deck line ++ grouped (deck_behind kind deck line) (number + 1) kinds rest

pub items_behind-grouped : (s : CutProgress) (lines : List (List ℕ)) → items_behind s lines ≡ grouped s.deck s.number (run s.state lines) lines
items_behind-grouped s [] = refl
items_behind-grouped s (line ∷ rest) = ap (λ more. line_items s line ++ more) (items_behind-grouped (behind s line) rest)

-- lines that are cards of the open deck
pub grouped-cards : (front : List (List ℕ)) (deck : List (List ℕ)) (number : ℕ) (kinds : List LineKind) (rest : List (List ℕ)) → grouped deck number (replicate (length front) CardOfDeck ++ kinds) (front ++ rest) ≡ grouped (deck ++ front) (number + length front) kinds rest
grouped-cards [] deck number kinds rest = ap₂ (λ d n. grouped d n kinds rest) (sym (append-nil deck)) (omega arith)
grouped-cards (line ∷ front) deck number kinds rest =
    grouped-cards front (deck ++ line ∷ []) (number + 1) kinds rest
    ∙ ap₂ (λ d n. grouped d n kinds rest) (append_assoc deck (line ∷ []) front) (omega arith)

-- the open deck ends before an item
pub grouped-closed : (items : List NumberedItem) (b : Bool) (deck : List (List ℕ)) (number : ℕ) (lines : List (List ℕ)) → grouped deck number (kinds_from b items) lines ≡ ended_deck number deck ++ grouped [] number (kinds_from b items) lines
grouped-closed [] b deck number lines = sym (append-nil (ended_deck number deck))
grouped-closed (placed ∷ items) b deck number lines = of_item placed.item b lines
  where
    of_line : (kind : LineKind) (kinds : List LineKind) (line : List ℕ) (rest : List (List ℕ)) → deck_before kind number deck ≡ ended_deck number deck → deck_before kind number [] ≡ [] → deck_behind kind deck line ≡ deck_behind kind [] line → grouped deck number (kind ∷ kinds) (line ∷ rest) ≡ ended_deck number deck ++ grouped [] number (kind ∷ kinds) (line ∷ rest)
    of_line kind kinds line rest before none after =
        rw (before, none, after) (append_assoc (ended_deck number deck) (item_alone kind number line) (grouped (deck_behind kind [] line) (number + 1) kinds rest))

    of_lines : (kind : LineKind) (kinds : List LineKind) (lines : List (List ℕ)) → deck_before kind number deck ≡ ended_deck number deck → deck_before kind number [] ≡ [] → ((line : List ℕ) → deck_behind kind deck line ≡ deck_behind kind [] line) → grouped deck number (kind ∷ kinds) lines ≡ ended_deck number deck ++ grouped [] number (kind ∷ kinds) lines
    of_lines kind kinds [] before none after = sym (append-nil (ended_deck number deck))
    of_lines kind kinds (line ∷ rest) before none after = of_line kind kinds line rest before none (after line)

    of_ignored : (null c : Bool) (line : List ℕ) (kinds : List LineKind) (lines : List (List ℕ)) → grouped deck number ((if null then EndsDeck else IgnoredLine) ∷ kinds) lines ≡ ended_deck number deck ++ grouped [] number ((if null then EndsDeck else IgnoredLine) ∷ kinds) lines
    of_ignored true c line kinds lines = of_lines EndsDeck kinds lines refl refl (λ l. refl)
    of_ignored false c line kinds lines = of_lines IgnoredLine kinds lines refl refl (λ l. refl)

    of_item : (item : Item) (c : Bool) (lines : List (List ℕ)) → grouped deck number (kinds_of c item ++ kinds_from (is_deck item) items) lines ≡ ended_deck number deck ++ grouped [] number (kinds_of c item ++ kinds_from (is_deck item) items) lines
    of_item (DeckOf own) c lines = of_lines StartsDeck _ lines refl refl (λ l. refl)
    of_item (Command line) c lines = of_lines CommandLine _ lines refl refl (λ l. refl)
    of_item (Refused line) c lines = of_lines StrayLine _ lines refl refl (λ l. refl)
    of_item (Ignored line) true lines = of_ignored (is_null (columns_of line)) true line _ lines
    of_item (Ignored line) false lines = of_lines IgnoredLine _ lines refl refl (λ l. refl)

-- ---- an item and those behind it

-- a line that is an item by itself
pub grouped-single : (b : Bool) (number : ℕ) (line : List ℕ) (rest : List (List ℕ)) (kinds : List LineKind) → grouped [] number (kinds_of b (single_item line) ++ kinds) (line ∷ rest) ≡ record { number = number; item = single_item line } ∷ grouped [] (number + 1) kinds rest
unfolding single_item
grouped-single b number line rest kinds = choose (is_command (columns_of line)) (is_ignored line) b
  where
    of_ignored : (null : Bool) → grouped [] number ((if null then EndsDeck else IgnoredLine) ∷ kinds) (line ∷ rest) ≡ record { number = number; item = Ignored line } ∷ grouped [] (number + 1) kinds rest
    of_ignored true = refl
    of_ignored false = refl

    choose : (command ignored c : Bool) → grouped [] number (kinds_of c (if command then Command line else (if ignored then Ignored line else Refused line)) ++ kinds) (line ∷ rest) ≡ record { number = number; item = if command then Command line else (if ignored then Ignored line else Refused line) } ∷ grouped [] (number + 1) kinds rest
    choose true ignored c = refl
    choose false true true = of_ignored (is_null (columns_of line))
    choose false true false = refl
    choose false false c = refl

pub number-back : (n m : ℕ) → n + 1 + m - (m + 1) ≡ n
number-back n m = omega arith

pub ended_deck-back : (number : ℕ) (line : List ℕ) (front : List (List ℕ)) → ended_deck (number + 1 + length front) (line ∷ front) ≡ record { number = number; item = DeckOf (line ∷ front) } ∷ []
ended_deck-back number line front =
    ap (λ n. record { number = n; item = DeckOf (line ∷ front) } ∷ []) (back number (length front))
  where
    back : (n m : ℕ) → n + 1 + m - suc m ≡ n
    back n m = omega arith

-- a deck, in front of what comes behind it
pub grouped-deck : (number : ℕ) (line : List ℕ) (front rest : List (List ℕ)) (items : List NumberedItem) → grouped [] number (StartsDeck ∷ (replicate (length front) CardOfDeck ++ kinds_from true items)) (line ∷ (front ++ rest)) ≡ record { number = number; item = DeckOf (line ∷ front) } ∷ grouped [] (number + 1 + length front) (kinds_from true items) rest
grouped-deck number line front rest items =
    grouped-cards front (line ∷ []) (number + 1) (kinds_from true items) rest
    ∙ (grouped-closed items true (line ∷ front) (number + 1 + length front) rest
    ∙ ap (λ own. own ++ grouped [] (number + 1 + length front) (kinds_from true items) rest) (ended_deck-back number line front))

-- the front of a list, where it isn't longer than the list
pub length-front : (q : ℕ) (lines : List (List ℕ)) → q ≤ length lines → length (take q lines) ≡ q
length-front q lines fits = rw (length-take q lines) (omega arith)

-- what is to be shown of the lines from a number on
abbrev pub AreGrouped : ℕ → ℕ → Bool → List (List ℕ) → Type 0
AreGrouped fuel number b lines = grouped [] number (kinds_from b (items_from fuel number lines)) lines ≡ items_from fuel number lines

abbrev pub items_after : ℕ → ℕ → ℕ → List ℕ → List (List ℕ) → List NumberedItem
items_after fuel number taken line rest = items_from fuel (number + taken) (drop taken (line ∷ rest))

abbrev pub placed_first : ℕ → Item → List NumberedItem → List NumberedItem
placed_first number item items = record { number = number; item = item } ∷ items

-- where the first item is a deck of a line and `q` more
pub deck-grouped : (fuel number q : ℕ) (b : Bool) (line : List ℕ) (rest : List (List ℕ)) → q ≤ length rest → AreGrouped fuel (number + suc q) true (drop q rest) → grouped [] number (kinds_from b (placed_first number (DeckOf (take (suc q) (line ∷ rest))) (items_after fuel number (suc q) line rest))) (line ∷ rest) ≡ placed_first number (DeckOf (take (suc q) (line ∷ rest))) (items_after fuel number (suc q) line rest)
deck-grouped fuel number q b line rest fits ih =
    subst (λ lines. grouped [] number (StartsDeck ∷ (replicate (length (line ∷ take q rest) - 1) CardOfDeck ++ kinds_from true items)) (line ∷ lines) ≡ placed_first number (DeckOf (line ∷ take q rest)) items) (take-append-drop q rest)
    (ap (λ n. grouped [] number (StartsDeck ∷ (replicate n CardOfDeck ++ kinds_from true items)) (line ∷ (take q rest ++ drop q rest))) (suc-minus (length (take q rest)))
    ∙ (grouped-deck number line (take q rest) (drop q rest) items
    ∙ ap (λ more. record { number = number; item = DeckOf (line ∷ take q rest) } ∷ more) (ap (λ n. grouped [] n (kinds_from true items) (drop q rest)) (ap (λ n. number + 1 + n) (length-front q rest fits) ∙ next number q) ∙ ih)))
  where
    items : List NumberedItem
    items = items_after fuel number (suc q) line rest

    next : (n m : ℕ) → n + 1 + m ≡ n + suc m
    next n m = omega arith

-- how many lines the deck has that a line starts, behind that line
abbrev pub more_lines : List ℕ → List (List ℕ) → ℕ
more_lines line rest = behind_statement 1 line rest + rest_of_deck 1 line rest

pub more_lines-fit : (line : List ℕ) (rest : List (List ℕ)) → more_lines line rest ≤ length rest
more_lines-fit line rest = front-fits _ (length rest) _ _ (start-run line rest) (length-run _ rest)

-- the items from a line that takes `taken` lines on
abbrev pub items_taking : ℕ → ℕ → ℕ → List ℕ → List (List ℕ) → List NumberedItem
items_taking fuel number taken line rest = placed_first number (item_at taken line rest) (items_after fuel number taken line rest)

abbrev pub AreGroupedTaking : ℕ → ℕ → Bool → ℕ → List ℕ → List (List ℕ) → Type 0
AreGroupedTaking fuel number b taken line rest = grouped [] number (kinds_from b (items_taking fuel number taken line rest)) (line ∷ rest) ≡ items_taking fuel number taken line rest

pub start-grouped : (fuel number : ℕ) (b : Bool) (line : List ℕ) (rest : List (List ℕ)) → starts_deck (columns_of line) ≡ true → AreGrouped fuel (number + lines_taken line rest) true (drop (lines_taken line rest) (line ∷ rest)) → AreGroupedTaking fuel number b (lines_taken line rest) line rest
start-grouped fuel number b line rest starts ih =
    subst (λ taken. AreGroupedTaking fuel number b taken line rest) (sym taken)
    (subst (λ item. grouped [] number (kinds_from b (placed_first number item (items_after fuel number (suc q) line rest))) (line ∷ rest) ≡ placed_first number item (items_after fuel number (suc q) line rest)) (sym (item_at-start (suc q) line rest starts))
    (deck-grouped fuel number q b line rest (more_lines-fit line rest)
    (subst (λ taken. AreGrouped fuel (number + taken) true (drop taken (line ∷ rest))) taken ih)))
  where
    q : ℕ
    q = more_lines line rest

    taken : lines_taken line rest ≡ suc q
    taken = taken-start line rest starts

pub single-grouped : (fuel number : ℕ) (b : Bool) (line : List ℕ) (rest : List (List ℕ)) → starts_deck (columns_of line) ≡ false → ((c : Bool) → AreGrouped fuel (number + lines_taken line rest) c (drop (lines_taken line rest) (line ∷ rest))) → AreGroupedTaking fuel number b (lines_taken line rest) line rest
single-grouped fuel number b line rest starts ih =
    subst (λ taken. AreGroupedTaking fuel number b taken line rest) (sym (lines_taken-single line rest starts))
    (subst (λ item. grouped [] number (kinds_from b (placed_first number item (items_after fuel number 1 line rest))) (line ∷ rest) ≡ placed_first number item (items_after fuel number 1 line rest)) (sym (item_at-single 1 line rest starts))
    (grouped-single b number line rest (kinds_from (is_deck (single_item line)) (items_after fuel number 1 line rest))
    ∙ ap (λ more. record { number = number; item = single_item line } ∷ more)
    (subst (λ taken. AreGrouped fuel (number + taken) (is_deck (single_item line)) (drop taken (line ∷ rest))) (lines_taken-single line rest starts) (ih (is_deck (single_item line))))))

pub item-grouped : (starts : Bool) (fuel number : ℕ) (b : Bool) (line : List ℕ) (rest : List (List ℕ)) → starts_deck (columns_of line) ≡ starts → ((c : Bool) → AreGrouped fuel (number + lines_taken line rest) c (drop (lines_taken line rest) (line ∷ rest))) → AreGroupedTaking fuel number b (lines_taken line rest) line rest
item-grouped true fuel number b line rest starts ih = start-grouped fuel number b line rest starts (ih true)
item-grouped false fuel number b line rest starts ih = single-grouped fuel number b line rest starts ih

pub items_from-grouped : (fuel number : ℕ) (b : Bool) (lines : List (List ℕ)) → length lines ≤ fuel → AreGrouped fuel number b lines
items_from-grouped zero number b [] fits = refl
items_from-grouped (suc fuel) number b [] fits = refl
items_from-grouped zero number b (line ∷ rest) fits = absurd (none-fits line rest fits)
items_from-grouped (suc fuel) number b (line ∷ rest) fits =
    item-grouped (starts_deck (columns_of line)) fuel number b line rest refl
    (λ c. items_from-grouped fuel (number + lines_taken line rest) c (drop (lines_taken line rest) (line ∷ rest)) (drop-fits_pos (lines_taken line rest) fuel line rest (lines_taken-pos line rest) fits))

-- ---- the laws

pub items_of_lines-grouped : (lines : List (List ℕ)) → grouped [] 1 (line_kinds lines) lines ≡ items_of_lines lines
unfolding line_kinds items_of_lines
items_of_lines-grouped lines = items_from-grouped (length lines) 1 false lines (omega arith)

-- the items of a stream are those that end line by line, from the start on
pub items_of_lines-behind : (lines : List (List ℕ)) → items_of_lines lines ≡ items_behind begin lines
items_of_lines-behind lines =
    sym (items_of_lines-grouped lines) ∙ (ap (λ kinds. grouped [] 1 kinds lines) (line_kinds-run lines) ∙ sym (items_behind-grouped begin lines))

-- the items that end within the first lines, and those of the rest
pub items_behind-append : (s : CutProgress) (first rest : List (List ℕ)) → items_behind s (first ++ rest) ≡ ended_items s first ++ items_behind (behind_all s first) rest
items_behind-append s [] rest = refl
items_behind-append s (line ∷ first) rest =
    ap (λ more. line_items s line ++ more) (items_behind-append (behind s line) first rest)
    ∙ sym (append_assoc (line_items s line) (ended_items (behind s line) first) (items_behind (behind_all (behind s line) first) rest))

pub ended_items-append : (s : CutProgress) (first rest : List (List ℕ)) → ended_items s (first ++ rest) ≡ ended_items s first ++ ended_items (behind_all s first) rest
ended_items-append s [] rest = refl
ended_items-append s (line ∷ first) rest =
    ap (λ more. line_items s line ++ more) (ended_items-append (behind s line) first rest)
    ∙ sym (append_assoc (line_items s line) (ended_items (behind s line) first) (ended_items (behind_all (behind s line) first) rest))

pub behind_all-append : (s : CutProgress) (first rest : List (List ℕ)) → behind_all s (first ++ rest) ≡ behind_all (behind_all s first) rest
behind_all-append s [] rest = refl
behind_all-append s (line ∷ first) rest = behind_all-append (behind s line) first rest

-- lines that are the last of the stream: what ends within them, and the deck that is open behind them
pub items_behind-ended : (s : CutProgress) (lines : List (List ℕ)) → items_behind s lines ≡ ended_items s lines ++ ended_deck (behind_all s lines).number (behind_all s lines).deck
items_behind-ended s [] = refl
items_behind-ended s (line ∷ rest) =
    ap (λ more. line_items s line ++ more) (items_behind-ended (behind s line) rest)
    ∙ sym (append_assoc (line_items s line) (ended_items (behind s line) rest) (ended_deck (behind_all (behind s line) rest).number (behind_all (behind s line) rest).deck))

-- the items of a stream: those that end within its first lines, and those of the rest from there on
pub items_of_lines-append : (first rest : List (List ℕ)) → items_of_lines (first ++ rest) ≡ ended_items begin first ++ items_behind (behind_all begin first) rest
items_of_lines-append first rest = items_of_lines-behind (first ++ rest) ∙ items_behind-append begin first rest
