-- What a line is, by what the lines before it left open: cutting one line after the other.
use Rattle.ckr_cards.specs.declared.lines.InStream.{InStream}
use Rattle.ckr_cards.specs.declared.lines.InStream.TheVariants.{NoRecords}
use Rattle.ckr_cards.specs.declared.cutter.Line.{Line as LineKind}
use Rattle.ckr_cards.specs.declared.cutter.Line.TheVariants.{Starts as StartsDeck, Card as CardOfDeck, Ends as EndsDeck, Command as CommandLine, Stray as StrayLine, Ignored as IgnoredLine}
use Rattle.ckr_cards.specs.declared.cutter.CutState.{CutState}
use Rattle.ckr_cards.specs.declared.cutter.CutState.TheVariants.{Outside, Within, Calling}
use Rattle.ckr_cards.specs.declared.cutter.Stepped.{Stepped}
use Rattle.std.specs.Prelude.{ℕ, ◌||◌, Bool, true, false, if◌then◌else◌, List, [], ◌∷◌}
use Rattle.ckr_cards.specs.Card.{is_null}
use Rattle.ckr_cards.specs.Field.{goes_on}
use Rattle.ckr_cards.specs.Statement.{kind_of, is_named, first_field, continued_field, is_continuation, is_well_placed, is_record, records_after}
use Rattle.ckr_cards.specs.Cut.{columns_of, starts_deck, is_command, is_ignored}

abbrev pub stepped : LineKind → CutState → Stepped
stepped kind state = record { kind = kind; state = state }

-- behind a card of a statement
abbrev pub behind_card : Bool → InStream → CutState
behind_card true records = Calling records
behind_card false records = Within records

-- behind the first card of a statement
unfoldable pub behind_first_card : List ℕ → CutState
behind_first_card text =
    if is_named (kind_of text) then behind_card (goes_on (first_field text)) (records_after text) else Within NoRecords

-- a line where no deck is open
unfoldable pub step_outside : List ℕ → Stepped
step_outside line =
    if starts_deck (columns_of line) then stepped StartsDeck (behind_first_card (columns_of line))
    else (if is_command (columns_of line) then stepped CommandLine Outside
    else (if is_ignored line then stepped IgnoredLine Outside
    else stepped StrayLine Outside))

-- a line where a statement of a deck is to begin
unfoldable pub step_between : List ℕ → Stepped
step_between line =
    if is_null (columns_of line) then stepped EndsDeck Outside
    else (if starts_deck (columns_of line) || is_command (columns_of line) then step_outside line
    else stepped CardOfDeck (behind_first_card (columns_of line)))

unfoldable pub step_within : InStream → List ℕ → Stepped
step_within records line = if is_record records (columns_of line) then stepped CardOfDeck (Within records) else step_between line

-- behind a continuation card: a wrong one ends the statement, and no records begin
unfoldable pub behind_continuation : InStream → List ℕ → CutState
behind_continuation records text =
    if is_well_placed text then behind_card (goes_on (continued_field text)) records else Within NoRecords

-- where the continuation is missing no records begin
unfoldable pub step_calling : InStream → List ℕ → Stepped
step_calling records line =
    if is_continuation (columns_of line) then stepped CardOfDeck (behind_continuation records (columns_of line))
    else step_between line

abbrev pub step : CutState → List ℕ → Stepped
step Outside line = step_outside line
step (Within records) line = step_within records line
step (Calling records) line = step_calling records line

-- what each line is, from a state on
abbrev pub run : CutState → List (List ℕ) → List LineKind
run state [] = []
run state (line ∷ rest) = (step state line).kind ∷ run (step state line).state rest
