-- What a session hands over is what the items of the stream hand over.
use Rattle.ckr_cards.specs.declared.cutter.Line.{Line as LineKind}
use Rattle.ckr_cards.specs.declared.cutter.Line.TheVariants.{Starts as StartsDeck, Card as CardOfDeck, Ends as EndsDeck, Command as CommandLine, Stray as StrayLine, Ignored as IgnoredLine}
use Rattle.std.proofs.Common.{◌≡◌, ℕ, ◌+◌, ◌≤◌, List, [], ◌∷◌, ◌++◌, length, refl, ap, ap₂, sym, ◌∙◌, arith, append_assoc, append-nil, length-append, if◌then◌else◌}
use Rattle.std.specs.Prelude.{nat_lt}
use Rattle.ckr_cards.specs.Card.{stored_line, stored_lines, filled}
use Rattle.ckr_cards.specs.Cut.{NumberedItem, items_of_lines}
use Rattle.ckr_cards.specs.CutSteps.{step}
use Rattle.ckr_cards.specs.CutProgress.{CutProgress, begin, ended_deck, deck_before, item_alone, deck_behind, line_items, behind, items_behind}
use Rattle.ckr_cards.specs.Session.{handed_item, handed_of, SessionModel, session_of, first_session, handed_deck, handed_before, handed_alone, cards_after, handed_with, session_behind, handed_within, session_behind_all, handed_by}
use Rattle.ckr_cards.specs.Session.Handed.{Deck}
use Rattle.ckr_cards.proofs.ItemGroups.{items_of_lines-behind}

pub handed_of-append : (xs ys : List NumberedItem) → handed_of (xs ++ ys) ≡ handed_of xs ++ handed_of ys
handed_of-append [] ys = refl
handed_of-append (placed ∷ xs) ys =
    ap (λ more. handed_item placed.number placed.item ++ more) (handed_of-append xs ys)
    ∙ sym (append_assoc (handed_item placed.number placed.item) (handed_of xs) (handed_of ys))

pub stored_lines-append : (xs ys : List (List ℕ)) → stored_lines (xs ++ ys) ≡ stored_lines xs ++ stored_lines ys
stored_lines-append [] ys = refl
stored_lines-append (line ∷ xs) ys =
    ap (λ more. stored_line line ++ more) (stored_lines-append xs ys)
    ∙ sym (append_assoc (stored_line line) (stored_lines xs) (stored_lines ys))

pub handed_deck-some : (cards : List ℕ) → 1 ≤ length cards → handed_deck cards ≡ Deck cards ∷ []
handed_deck-some [] some = absurd (omega arith)
handed_deck-some (byte ∷ rest) some = refl

pub stored_lines-some : (line : List ℕ) (rest : List (List ℕ)) → 1 ≤ length (stored_lines (line ∷ rest))
stored_lines-some line rest = long (filled line) (if nat_lt 80 (length line) then 1 else 0) (stored_lines rest)
  where
    long : (front : List ℕ) (mark : ℕ) (more : List ℕ) → 1 ≤ length ((front ++ mark ∷ []) ++ more)
    long front mark more = rw (length-append (front ++ mark ∷ []) more, length-append front (mark ∷ [])) (omega arith)

pub handed_of-ended_deck : (number : ℕ) (deck : List (List ℕ)) → handed_of (ended_deck number deck) ≡ handed_deck (stored_lines deck)
handed_of-ended_deck number [] = refl
handed_of-ended_deck number (line ∷ rest) = sym (handed_deck-some (stored_lines (line ∷ rest)) (stored_lines-some line rest))

pub handed_of-deck_before : (kind : LineKind) (number : ℕ) (deck : List (List ℕ)) → handed_of (deck_before kind number deck) ≡ handed_before kind (stored_lines deck)
handed_of-deck_before StartsDeck number deck = handed_of-ended_deck number deck
handed_of-deck_before CardOfDeck number deck = refl
handed_of-deck_before EndsDeck number deck = handed_of-ended_deck number deck
handed_of-deck_before CommandLine number deck = handed_of-ended_deck number deck
handed_of-deck_before StrayLine number deck = handed_of-ended_deck number deck
handed_of-deck_before IgnoredLine number deck = handed_of-ended_deck number deck

pub handed_of-item_alone : (kind : LineKind) (number : ℕ) (line : List ℕ) → handed_of (item_alone kind number line) ≡ handed_alone kind number line
handed_of-item_alone StartsDeck number line = refl
handed_of-item_alone _ number line = refl

pub stored_lines-one : (line : List ℕ) → stored_lines (line ∷ []) ≡ stored_line line
stored_lines-one line = append-nil (stored_line line)

pub stored_lines-deck_behind : (kind : LineKind) (deck : List (List ℕ)) (line : List ℕ) → stored_lines (deck_behind kind deck line) ≡ cards_after kind (stored_lines deck) line
stored_lines-deck_behind StartsDeck deck line = stored_lines-one line
stored_lines-deck_behind CardOfDeck deck line = stored_lines-append deck (line ∷ []) ∙ ap (λ more. stored_lines deck ++ more) (stored_lines-one line)
stored_lines-deck_behind EndsDeck deck line = refl
stored_lines-deck_behind CommandLine deck line = refl
stored_lines-deck_behind StrayLine deck line = refl
stored_lines-deck_behind IgnoredLine deck line = refl

pub handed_of-line_items : (s : CutProgress) (line : List ℕ) → handed_of (line_items s line) ≡ handed_with (session_of s) line
handed_of-line_items s line =
    handed_of-append (deck_before (step s.state line).kind s.number s.deck) (item_alone (step s.state line).kind s.number line)
    ∙ ap₂ (λ a b. a ++ b) (handed_of-deck_before (step s.state line).kind s.number s.deck) (handed_of-item_alone (step s.state line).kind s.number line)

pub session_of-behind : (s : CutProgress) (line : List ℕ) → session_of (behind s line) ≡ session_behind (session_of s) line
session_of-behind s line =
    ap (λ cards. record { state = (step s.state line).state; cards = cards; number = s.number + 1 }) (stored_lines-deck_behind (step s.state line).kind s.deck line)

pub handed_of-items_behind : (s : CutProgress) (lines : List (List ℕ)) → handed_of (items_behind s lines) ≡ handed_by (session_of s) lines
handed_of-items_behind s [] = handed_of-ended_deck s.number s.deck
handed_of-items_behind s (line ∷ rest) =
    handed_of-append (line_items s line) (items_behind (behind s line) rest)
    ∙ ap₂ (λ a b. a ++ b) (handed_of-line_items s line) (handed_of-items_behind (behind s line) rest ∙ ap (λ next. handed_by next rest) (session_of-behind s line))

-- what the items of a stream hand over is handed over line by line
pub handed_of-lines : (lines : List (List ℕ)) → handed_of (items_of_lines lines) ≡ handed_by first_session lines
handed_of-lines lines = ap handed_of (items_of_lines-behind lines) ∙ handed_of-items_behind begin lines

pub handed_by-append : (s : SessionModel) (first rest : List (List ℕ)) → handed_by s (first ++ rest) ≡ handed_within s first ++ handed_by (session_behind_all s first) rest
handed_by-append s [] rest = refl
handed_by-append s (line ∷ first) rest =
    ap (λ more. handed_with s line ++ more) (handed_by-append (session_behind s line) first rest)
    ∙ sym (append_assoc (handed_with s line) (handed_within (session_behind s line) first) (handed_by (session_behind_all (session_behind s line) first) rest))

pub handed_within-append : (s : SessionModel) (first rest : List (List ℕ)) → handed_within s (first ++ rest) ≡ handed_within s first ++ handed_within (session_behind_all s first) rest
handed_within-append s [] rest = refl
handed_within-append s (line ∷ first) rest =
    ap (λ more. handed_with s line ++ more) (handed_within-append (session_behind s line) first rest)
    ∙ sym (append_assoc (handed_with s line) (handed_within (session_behind s line) first) (handed_within (session_behind_all (session_behind s line) first) rest))

pub session_behind_all-append : (s : SessionModel) (first rest : List (List ℕ)) → session_behind_all s (first ++ rest) ≡ session_behind_all (session_behind_all s first) rest
session_behind_all-append s [] rest = refl
session_behind_all-append s (line ∷ first) rest = session_behind_all-append (session_behind s line) first rest

-- where the stream ends behind the lines
pub handed_by-within : (s : SessionModel) (lines : List (List ℕ)) → handed_by s lines ≡ handed_within s lines ++ handed_deck (session_behind_all s lines).cards
handed_by-within s [] = refl
handed_by-within s (line ∷ rest) =
    ap (λ more. handed_with s line ++ more) (handed_by-within (session_behind s line) rest)
    ∙ sym (append_assoc (handed_with s line) (handed_within (session_behind s line) rest) (handed_deck (session_behind_all (session_behind s line) rest).cards))

-- what is handed over within the first lines, and by the rest from there on
pub handed_of-append_lines : (first rest : List (List ℕ)) → handed_of (items_of_lines (first ++ rest)) ≡ handed_within first_session first ++ handed_by (session_behind_all first_session first) rest
handed_of-append_lines first rest = handed_of-lines (first ++ rest) ∙ handed_by-append first_session first rest
