-- A stream of lines, cut into decks, commands, refused and ignored lines.
use Rattle.ckr_cards.specs.declared.cutter.Line.{Line as LineKind}
use Rattle.ckr_cards.specs.declared.cutter.Line.TheVariants.{Starts as StartsDeck, Card as CardOfDeck, Ends as EndsDeck, Command as CommandLine, Stray as StrayLine, Ignored as IgnoredLine}
use Rattle.std.specs.Prelude.{ℕ, zero, suc, ◌+◌, ◌-◌, ◌&&◌, ◌||◌, Bool, true, false, if◌then◌else◌, List, [], ◌∷◌, ◌++◌, length, take, drop, replicate, codes}
use Rattle.std.specs.List.{list_all}
use Rattle.std.specs.Str.Lines.{lines}
use Rattle.ckr_base.specs.Grammar.{is_name8}
use Rattle.ckr_cards.specs.Card.{columns, filled, cards_of_lines, begins, is_blank, is_comment, is_delimiter, is_null, name_of}
use Rattle.ckr_cards.specs.declared.statement.Statement.{Statement}
use Rattle.ckr_cards.specs.Statement.{statements_of, kind_of, is_job, cards_behind}

-- ---- what a line is by itself

-- columns 1 to 71 of a line
abbrev pub columns_of : List ℕ → List ℕ
columns_of line = take 71 (filled line)

-- `//name JOB` with a well formed name
unfoldable pub starts_deck : List ℕ → Bool
starts_deck text = is_job (kind_of text) && is_name8 (name_of text)

unfoldable pub is_command : List ℕ → Bool
is_command text = begins text (codes "$")

-- blank, `//*`, `//` alone or `/*`
unfoldable pub is_ignored : List ℕ → Bool
is_ignored line =
    list_all is_blank line || is_comment (columns_of line) || is_null (columns_of line) || is_delimiter (columns_of line)

-- ---- decks

-- a deck ends before the null card, the next JOB card and a command, in-stream records apart
unfoldable pub ends_deck : Statement → Bool
ends_deck s = is_null (columns s.first) || starts_deck (columns s.first) || is_command (columns s.first)

-- how many cards the statements up to the end of the deck have
abbrev pub cards_before_end : List Statement → ℕ
cards_before_end [] = 0
cards_before_end (s ∷ rest) = if ends_deck s then 0 else cards_behind s + 1 + cards_before_end rest

abbrev pub cards_from_start : List Statement → ℕ
cards_from_start [] = 0
cards_from_start (start ∷ rest) = cards_behind start + 1 + cards_before_end rest

-- how many of the lines from a JOB card on are its deck
unfoldable pub deck_length : List (List ℕ) → ℕ
deck_length lines = cards_from_start (statements_of (cards_of_lines 1 lines))

-- ---- the items of a stream

pub data Item : Type 0 where
  -- the lines of a deck
  DeckOf : List (List ℕ) → Item
  Command Refused Ignored : List ℕ → Item

-- an item, and the number of its first line
pub record NumberedItem : Type 0 where
  pub number : ℕ
  pub item : Item

abbrev pub starts_line : List ℕ → Bool
starts_line line = starts_deck (columns_of line)

-- how many lines the item takes that begins with a line
unfoldable pub lines_taken : List ℕ → List (List ℕ) → ℕ
lines_taken line rest = if starts_line line then deck_length (line ∷ rest) else 1

unfoldable pub single_item : List ℕ → Item
single_item line = if is_command (columns_of line) then Command line else (if is_ignored line then Ignored line else Refused line)

unfoldable pub item_at : ℕ → List ℕ → List (List ℕ) → Item
item_at taken line rest = if starts_line line then DeckOf (take taken (line ∷ rest)) else single_item line

abbrev pub items_from : ℕ → ℕ → List (List ℕ) → List NumberedItem
items_from zero number lines = []
items_from (suc fuel) number [] = []
items_from (suc fuel) number (line ∷ rest) =
    let taken = lines_taken line rest in
    record { number = number; item = item_at taken line rest } ∷ items_from fuel (number + taken) (drop taken (line ∷ rest))

unfoldable pub items_of_lines : List (List ℕ) → List NumberedItem
items_of_lines lines = items_from (length lines) 1 lines

-- the decks, commands, refused and ignored lines of a stream; its lines end with a line feed,
-- a carriage return before it is dropped, and the last line may lack its line feed
unfoldable pub items_of : List ℕ → List NumberedItem
items_of bytes = items_of_lines (lines bytes)

-- the lines of an item
abbrev pub lines_in : Item → List (List ℕ)
lines_in (DeckOf lines) = lines
lines_in (Command line) = line ∷ []
lines_in (Refused line) = line ∷ []
lines_in (Ignored line) = line ∷ []

abbrev pub all_lines : List NumberedItem → List (List ℕ)
all_lines [] = []
all_lines (placed ∷ rest) = lines_in placed.item ++ all_lines rest

-- ---- what each line is

-- the null card directly behind a deck ends it
abbrev pub ignored_kind : Bool → List ℕ → LineKind
ignored_kind behind_deck line = if behind_deck && is_null (columns_of line) then EndsDeck else IgnoredLine

abbrev pub kinds_of : Bool → Item → List LineKind
kinds_of behind_deck (DeckOf lines) = StartsDeck ∷ replicate (length lines - 1) CardOfDeck
kinds_of behind_deck (Command line) = CommandLine ∷ []
kinds_of behind_deck (Refused line) = StrayLine ∷ []
kinds_of behind_deck (Ignored line) = ignored_kind behind_deck line ∷ []

abbrev pub is_deck : Item → Bool
is_deck (DeckOf lines) = true
is_deck _ = false

abbrev pub kinds_from : Bool → List NumberedItem → List LineKind
kinds_from behind_deck [] = []
kinds_from behind_deck (placed ∷ rest) = kinds_of behind_deck placed.item ++ kinds_from (is_deck placed.item) rest

-- what each line of a stream is
unfoldable pub line_kinds : List (List ℕ) → List LineKind
line_kinds lines = kinds_from false (items_of_lines lines)
