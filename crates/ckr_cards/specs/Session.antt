-- What a stream hands over, one line after the other, where an open deck is kept as its cards in 81 bytes each.
use Rattle.ckr_cards.specs.declared.cutter.Line.{Line as LineKind}
use Rattle.ckr_cards.specs.declared.cutter.Line.TheVariants.{Starts as StartsDeck, Card as CardOfDeck, Ends as EndsDeck, Command as CommandLine, Stray as StrayLine, Ignored as IgnoredLine}
use Rattle.ckr_cards.specs.declared.cutter.CutState.{CutState}
use Rattle.ckr_cards.specs.declared.cutter.CutState.TheVariants.{Outside}
use Rattle.std.specs.Prelude.{ℕ, ◌+◌, List, [], ◌∷◌, ◌++◌}
use Rattle.ckr_cards.specs.Card.{stored_line, stored_lines}
use Rattle.ckr_cards.specs.Cut.{Item, NumberedItem}
use Rattle.ckr_cards.specs.Cut.Item.{DeckOf, Command as CommandItem, Refused as RefusedItem, Ignored as IgnoredItem}
use Rattle.ckr_cards.specs.CutSteps.{step}
use Rattle.ckr_cards.specs.CutProgress.{CutProgress}

pub data Handed : Type 0 where
  -- the cards of a deck, in 81 bytes each
  Deck : (cards : List ℕ) → Handed
  -- a line that begins with `$`
  Order : (number : ℕ) (text : List ℕ) → Handed
  -- a line that is refused
  Refusal : (number : ℕ) → Handed

-- ---- what the items of a stream hand over

abbrev pub handed_item : ℕ → Item → List Handed
handed_item number (DeckOf lines) = Deck (stored_lines lines) ∷ []
handed_item number (CommandItem line) = Order number line ∷ []
handed_item number (RefusedItem line) = Refusal number ∷ []
handed_item number (IgnoredItem line) = []

abbrev pub handed_of : List NumberedItem → List Handed
handed_of [] = []
handed_of (placed ∷ rest) = handed_item placed.number placed.item ++ handed_of rest

-- ---- one line after the other

-- the cards of the open deck, and the number of the next line
pub record SessionModel : Type 0 where
  pub state : CutState
  pub cards : List ℕ
  pub number : ℕ

abbrev pub session_of : CutProgress → SessionModel
session_of s = record { state = s.state; cards = stored_lines s.deck; number = s.number }

abbrev pub first_session : SessionModel
first_session = record { state = Outside; cards = []; number = 1 }

abbrev pub handed_deck : List ℕ → List Handed
handed_deck [] = []
handed_deck (byte ∷ rest) = Deck (byte ∷ rest) ∷ []

-- the open deck is handed over before each line that is no card of it
abbrev pub handed_before : LineKind → List ℕ → List Handed
handed_before CardOfDeck cards = []
handed_before StartsDeck cards = handed_deck cards
handed_before EndsDeck cards = handed_deck cards
handed_before CommandLine cards = handed_deck cards
handed_before StrayLine cards = handed_deck cards
handed_before IgnoredLine cards = handed_deck cards

-- what a line by itself hands over
abbrev pub handed_alone : LineKind → ℕ → List ℕ → List Handed
handed_alone CommandLine number line = Order number line ∷ []
handed_alone StrayLine number line = Refusal number ∷ []
handed_alone StartsDeck number line = []
handed_alone CardOfDeck number line = []
handed_alone EndsDeck number line = []
handed_alone IgnoredLine number line = []

abbrev pub cards_after : LineKind → List ℕ → List ℕ → List ℕ
cards_after StartsDeck cards line = stored_line line
cards_after CardOfDeck cards line = cards ++ stored_line line
cards_after EndsDeck cards line = []
cards_after CommandLine cards line = []
cards_after StrayLine cards line = []
cards_after IgnoredLine cards line = []

-- what a session hands over with a line
abbrev pub handed_with : SessionModel → List ℕ → List Handed
handed_with s line = handed_before (step s.state line).kind s.cards ++ handed_alone (step s.state line).kind s.number line

abbrev pub session_behind : SessionModel → List ℕ → SessionModel
session_behind s line = record {
  state = (step s.state line).state;
  cards = cards_after (step s.state line).kind s.cards line;
  number = s.number + 1;
}

-- what a session hands over within lines
abbrev pub handed_within : SessionModel → List (List ℕ) → List Handed
handed_within s [] = []
handed_within s (line ∷ rest) = handed_with s line ++ handed_within (session_behind s line) rest

abbrev pub session_behind_all : SessionModel → List (List ℕ) → SessionModel
session_behind_all s [] = s
session_behind_all s (line ∷ rest) = session_behind_all (session_behind s line) rest

-- what a session hands over where the stream ends behind the lines
abbrev pub handed_by : SessionModel → List (List ℕ) → List Handed
handed_by s [] = handed_deck s.cards
handed_by s (line ∷ rest) = handed_with s line ++ handed_by (session_behind s line) rest
