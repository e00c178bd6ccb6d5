-- A stream that is cut one line after the other: which items have ended so far, and what is left open.
use Rattle.ckr_cards.specs.declared.cutter.Line.{Line as LineKind}
use Rattle.ckr_cards.specs.declared.cutter.Line.TheVariants.{Starts as StartsDeck, Card as CardOfDeck, Ends as EndsDeck, Command as CommandLine, Stray as StrayLine, Ignored as IgnoredLine}
use Rattle.ckr_cards.specs.declared.cutter.CutState.{CutState}
use Rattle.ckr_cards.specs.declared.cutter.CutState.TheVariants.{Outside}
use Rattle.std.specs.Prelude.{ℕ, ◌+◌, ◌-◌, List, [], ◌∷◌, ◌++◌, length}
use Rattle.ckr_cards.specs.Cut.{NumberedItem}
use Rattle.ckr_cards.specs.Cut.Item.{DeckOf, Command, Refused, Ignored}
use Rattle.ckr_cards.specs.CutSteps.{step}

-- what the lines so far leave open: the lines of the deck that hasn't ended, and the number of the next line
pub record CutProgress : Type 0 where
  pub state : CutState
  pub deck : List (List ℕ)
  pub number : ℕ

-- before the first line
abbrev pub begin : CutProgress
begin = record { state = Outside; deck = []; number = 1 }

-- the deck that ends before the line of a number
abbrev pub ended_deck : ℕ → List (List ℕ) → List NumberedItem
ended_deck number [] = []
ended_deck number (line ∷ rest) = record { number = number - length (line ∷ rest); item = DeckOf (line ∷ rest) } ∷ []

-- the open deck ends before each line that is no card of it
abbrev pub deck_before : LineKind → ℕ → List (List ℕ) → List NumberedItem
deck_before CardOfDeck number deck = []
deck_before StartsDeck number deck = ended_deck number deck
deck_before EndsDeck number deck = ended_deck number deck
deck_before CommandLine number deck = ended_deck number deck
deck_before StrayLine number deck = ended_deck number deck
deck_before IgnoredLine number deck = ended_deck number deck

-- the item that a line is by itself
abbrev pub item_alone : LineKind → ℕ → List ℕ → List NumberedItem
item_alone StartsDeck number line = []
item_alone CardOfDeck number line = []
item_alone EndsDeck number line = record { number = number; item = Ignored line } ∷ []
item_alone CommandLine number line = record { number = number; item = Command line } ∷ []
item_alone StrayLine number line = record { number = number; item = Refused line } ∷ []
item_alone IgnoredLine number line = record { number = number; item = Ignored line } ∷ []

-- the open deck behind a line
abbrev pub deck_behind : LineKind → List (List ℕ) → List ℕ → List (List ℕ)
deck_behind StartsDeck deck line = line ∷ []
deck_behind CardOfDeck deck line = deck ++ line ∷ []
deck_behind EndsDeck deck line = []
deck_behind CommandLine deck line = []
deck_behind StrayLine deck line = []
deck_behind IgnoredLine deck line = []

-- the items that end with a line
abbrev pub items_with : LineKind → ℕ → List (List ℕ) → List ℕ → List NumberedItem
items_with kind number deck line = deck_before kind number deck ++ item_alone kind number line

abbrev pub line_items : CutProgress → List ℕ → List NumberedItem
line_items s line = items_with (step s.state line).kind s.number s.deck line

abbrev pub behind : CutProgress → List ℕ → CutProgress
behind s line = record {
  state = (step s.state line).state;
  deck = deck_behind (step s.state line).kind s.deck line;
  number = s.number + 1;
}

-- the items that end within lines
abbrev pub ended_items : CutProgress → List (List ℕ) → List NumberedItem
ended_items s [] = []
ended_items s (line ∷ rest) = line_items s line ++ ended_items (behind s line) rest

abbrev pub behind_all : CutProgress → List (List ℕ) → CutProgress
behind_all s [] = s
behind_all s (line ∷ rest) = behind_all (behind s line) rest

-- the items of lines that are the last of the stream
abbrev pub items_behind : CutProgress → List (List ℕ) → List NumberedItem
items_behind s [] = ended_deck s.number s.deck
items_behind s (line ∷ rest) = line_items s line ++ items_behind (behind s line) rest
