-- A deck that is accepted is the deck that its event keeps: no line of it was longer than its card.
use Rattle.std.proofs.Common.{◌≡◌, ◌≤◌, ◌+◌, ◌*◌, ◌/◌, ℕ, zero, suc, Bool, true, false, List, [], ◌∷◌, ◌++◌, length, take, drop, map, flat_map, Option, Some, None, Ok, ◌<◌, ◌^◌, find, refl, ap, ap₂, sym, ◌∙◌, subst, cond, arith, length-append, nat_lt, nat_le}
use Rattle.std.specs.Simd.{first_chunks}
use Rattle.std.proofs.lemmas.Bool.Decides.{nat_tests}
use Rattle.std.proofs.lemmas.List.{length-take-le, length-drop, take-take}
use Rattle.std.proofs.lemmas.Option.{none-some}
use Rattle.std.specs.Prelude.{replicate}
use Rattle.ckr_base.proofs.Sequences.{drop-front, take-front}
use Rattle.ckr_base.proofs.Options.{option_or-none}
use Rattle.ckr_cards.specs.declared.card.Card.{Card}
use Rattle.ckr_cards.specs.declared.statement.Statement.{Statement}
use Rattle.ckr_cards.specs.Card.{card_of, cards_of_lines, filled, stored_line, stored_lines, stored_card, stored_cards, cards_in_bytes}
use Rattle.ckr_cards.specs.Statement.{cards_in, statements_of}
use Rattle.ckr_cards.proofs.StoredCards.{cards_in_bytes-lines}
use Rattle.ckr_cards.proofs.CardPlaces.{cards_in-statements_of}
use Rattle.ckr_jcl.specs.declared.deck.Job.{Job}
use Rattle.ckr_jcl_decks.specs.Parts.MetFaults.{MetFaults}
use Rattle.ckr_jcl_decks.specs.Parts.Faults.{long_card, long_line, faults_of, nothing_seen, seen_behind}
use Rattle.ckr_jcl_decks.specs.Least.{IsFaultAt, HasNone, AreSound}
use Rattle.ckr_jcl_decks.specs.Deck.{deck_of, stored_deck}
use Rattle.ckr_jcl_decks.proofs.Refusals.{job_law}
use Rattle.ckr_events.specs.declared.event.Event.TheVariants.{Submitted as SubmittedEvent}
use Rattle.ckr_desk_turn.specs.Cards.{with_short_mark, columns_of, stored_of_kept, kept_of_stored, kept_deck, job_in, IsSpelledDeck}
use Rattle.ckr_desk_turn.proofs.Decks.DeckTests.{map_none}

-- ---- no card is of a longer line

abbrev NoneLong : List Card → Type 0
NoneLong [] = Unit {0}
NoneLong (card ∷ rest) = (card.long ≡ false) × NoneLong rest

none_found : (cards : List Card) → find (λ card. card.long) cards ≡ None → NoneLong cards
none_found [] none = tt
none_found (card ∷ rest) none = by_test (none_found rest) card.long refl none
  where
    by_test : (find (λ card. card.long) rest ≡ None → NoneLong rest) → (long : Bool) → card.long ≡ long → cond long (Some card) (find (λ card. card.long) rest) ≡ None
        → (card.long ≡ false) × NoneLong rest
    by_test later true is none = absurd (none-some card (sym none))
    by_test later false is none = (is, later none)

long_none : (cards : List Card) → long_card cards ≡ None → NoneLong cards
long_none cards none = none_found cards (map_none (λ (card : Card). card.number) (find (λ card. card.long) cards) none)

joined : (front back : List Card) → NoneLong front → NoneLong back → NoneLong (front ++ back)
joined [] back none others = others
joined (card ∷ rest) back none others = (none.0, joined rest back none.1 others)

no_fault : (seen : MetFaults) (s : Statement) → HasNone (faults_of seen s) → long_line s ≡ None
unfolding faults_of
no_fault seen s none = by_case (long_line s) refl
  where
    by_case : (fault : Option ℕ) → long_line s ≡ fault → long_line s ≡ None
    by_case None is = is
    by_case (Some card) is = absurd (none 1 card (subst (λ (o : Option ℕ). IsFaultAt 1 card ((1, o) ∷ drop 1 (faults_of seen s))) (sym is) (IsFaultAt.here (drop 1 (faults_of seen s)))))

statement_none : (s : Statement) → long_line s ≡ None → NoneLong (s.first ∷ s.more) × NoneLong s.records
unfolding long_line
statement_none s none =
    let both = option_or-none (long_card (s.first ∷ s.more)) (long_card s.records) none in
    (long_none (s.first ∷ s.more) both.0, long_none s.records both.1)

sound_none : (seen : MetFaults) (statements : List Statement) → AreSound seen statements → NoneLong (cards_in statements)
sound_none seen [] is = tt
sound_none seen (s ∷ rest) (AreSound.sound seen' s' rest' none later) =
    let own = statement_none s (no_fault seen s none) in
    (own.0.0, joined s.more (s.records ++ cards_in rest) own.0.1 (joined s.records (cards_in rest) own.1 (sound_none (seen_behind seen s) rest later)))

-- ---- chunks

columns_long : (k : ℕ) (cards : List ℕ) → 81 * suc k ≤ length cards → length (take 80 (take 81 cards)) ≡ 80
columns_long k cards fits = ap length (take-take 80 81 cards (omega arith)) ∙ length-take-le 80 cards (omega (arith, fits))

-- the columns of the cards, one card for each of these
abbrev lines_of : ℕ → List ℕ → List (List ℕ)
lines_of k cards = map columns_of (first_chunks 81 k cards)

rest_long : (k : ℕ) (cards : List ℕ) → 81 * suc k ≤ length cards → 81 * k ≤ length (drop 81 cards)
rest_long k cards fits = omega (arith, fits, length-drop 81 cards)

-- each has 80 bytes
abbrev AreWhole : List (List ℕ) → Type 0
AreWhole [] = Unit {0}
AreWhole (line ∷ rest) = (length line ≡ 80) × AreWhole rest

lines_whole : (k : ℕ) (cards : List ℕ) → 81 * k ≤ length cards → AreWhole (lines_of k cards)
lines_whole zero cards fits = tt
lines_whole (suc k) cards fits = (columns_long k cards fits, lines_whole k (drop 81 cards) (rest_long k cards fits))

abbrev joined_lines : List (List ℕ) → List ℕ
joined_lines lines = flat_map (λ line. line) lines

-- lines of 80 bytes are parted as they were joined
parted : (lines : List (List ℕ)) → AreWhole lines → first_chunks 80 (length lines) (joined_lines lines) ≡ lines
parted [] whole = refl
parted (line ∷ rest) whole =
    ap₂ (λ chunk more. chunk ∷ more) (take-front 80 line (joined_lines rest) whole.0)
    (ap (λ bytes. first_chunks 80 (length rest) bytes) (drop-front 80 line (joined_lines rest) whole.0) ∙ parted rest whole.1)

joined_long : (lines : List (List ℕ)) → AreWhole lines → length (joined_lines lines) ≡ 80 * length lines
joined_long [] whole = refl
joined_long (line ∷ rest) whole =
    length-append line (joined_lines rest) ∙ (ap₂ (λ a b. a + b) whole.0 (joined_long rest whole.1) ∙ next (length rest))
  where
    next : (n : ℕ) → 80 + 80 * n ≡ 80 * suc n
    next n = omega arith

-- a line of 80 bytes is stored with the mark of a short one
stored_short : (line : List ℕ) → length line ≡ 80 → with_short_mark line ≡ stored_line line
unfolding filled
stored_short line whole = ap₂ (λ bytes mark. bytes ++ mark ∷ []) (sym (take-front 80 line (replicate 80 32) whole)) short
  where
    not_longer : false ≡ nat_lt 80 (length line)
    not_longer = grind (arith, nat_tests, whole)

    short : ◌≡◌ {A = ℕ} 0 (cond (nat_lt 80 (length line)) 1 0)
    short = ap (λ (b : Bool). cond {A = ℕ} b 1 0) not_longer

stored_all : (lines : List (List ℕ)) → AreWhole lines → flat_map with_short_mark lines ≡ stored_lines lines
stored_all [] whole = refl
stored_all (line ∷ rest) whole = ap₂ (λ bytes more. bytes ++ more) (stored_short line whole.0) (stored_all rest whole.1)

-- so what is stored of what is kept has the cards of the lines
kept_cards : (lines : List (List ℕ)) → AreWhole lines → cards_in_bytes (stored_of_kept (joined_lines lines)) ≡ cards_of_lines 1 lines
unfolding stored_of_kept
kept_cards lines whole =
    ap (λ count. cards_in_bytes (flat_map with_short_mark (first_chunks 80 count (joined_lines lines)))) (ap (λ n. n / 80) (joined_long lines whole) ∙ parts (length lines))
    ∙ (ap (λ chunks. cards_in_bytes (flat_map with_short_mark chunks)) (parted lines whole)
    ∙ (ap cards_in_bytes (stored_all lines whole) ∙ cards_in_bytes-lines lines))
  where
    parts : (n : ℕ) → 80 * n / 80 ≡ n
    parts n = omega arith

-- which are the cards themselves, where none is of a longer line
same_card : (number : ℕ) (stored : List ℕ) → length (columns_of stored) ≡ 80 → (stored_card number stored).long ≡ false → card_of number (columns_of stored) ≡ stored_card number stored
unfolding filled
same_card number stored whole short = ap₂ (λ bytes long. record { number = number; bytes = bytes; long = long }) front (mark ∙ sym short)
  where
    front : take 80 (columns_of stored ++ replicate 80 32) ≡ columns_of stored
    front = take-front 80 (columns_of stored) (replicate 80 32) whole

    mark : nat_lt 80 (length (columns_of stored)) ≡ false
    mark = grind (arith, nat_tests, whole)

same_cards : (number : ℕ) (chunks : List (List ℕ)) → AreWhole (map columns_of chunks) → NoneLong (stored_cards number chunks)
    → cards_of_lines number (map columns_of chunks) ≡ stored_cards number chunks
same_cards number [] whole short = refl
same_cards number (stored ∷ rest) whole short =
    ap₂ (λ card more. card ∷ more) (same_card number stored whole.0 short.0) (same_cards (number + 1) rest whole.1 short.1)

kept_joined : (chunks : List (List ℕ)) → flat_map columns_of chunks ≡ joined_lines (map columns_of chunks)
kept_joined [] = refl
kept_joined (chunk ∷ rest) = ap (λ (more : List ℕ). columns_of chunk ++ more) (kept_joined rest)

same_kept : (cards : List ℕ) → NoneLong (cards_in_bytes cards) → cards_in_bytes (stored_of_kept (kept_of_stored cards)) ≡ cards_in_bytes cards
unfolding cards_in_bytes kept_of_stored
same_kept cards short =
    let whole = lines_whole (length cards / 81) cards (omega arith) in
    ap (λ bytes. cards_in_bytes (stored_of_kept bytes)) (kept_joined (first_chunks 81 (length cards / 81) cards))
    ∙ (kept_cards (lines_of (length cards / 81) cards) whole ∙ same_cards 1 (first_chunks 81 (length cards / 81) cards) whole short)

same_deck : (cards : List ℕ) (job : Job) → stored_deck cards ≡ Ok job → stored_deck (stored_of_kept (kept_of_stored cards)) ≡ Ok job
unfolding stored_deck
same_deck cards job accepted =
    let sound = (job_law (cards_in_bytes cards) job accepted).0 in
    let short = subst NoneLong (cards_in-statements_of (cards_in_bytes cards)) (sound_none nothing_seen (statements_of (cards_in_bytes cards)) sound) in
    ap deck_of (same_kept cards short) ∙ accepted

-- ---- the event of a deck

lines_count : (k : ℕ) (cards : List ℕ) → length (lines_of k cards) ≡ k
lines_count zero cards = refl
lines_count (suc k) cards = ap suc (lines_count k (drop 81 cards))

-- it has 80 bytes of each card
pub kept_long : (cards : List ℕ) → length (kept_of_stored cards) ≡ 80 * (length cards / 81)
unfolding kept_of_stored
kept_long cards =
    ap length (kept_joined (first_chunks 81 (length cards / 81) cards))
    ∙ (joined_long (lines_of (length cards / 81) cards) (lines_whole (length cards / 81) cards (omega arith))
    ∙ ap (λ (n : ℕ). 80 * n) (lines_count (length cards / 81) cards))

-- the deck that an event keeps is the deck that was read, where that was accepted
pub kept_accepted : (cards : List ℕ) (job : Job) → 81 ≤ length cards → stored_deck cards ≡ Ok job → kept_deck (kept_of_stored cards) ≡ Some job
unfolding kept_deck
kept_accepted cards job some accepted =
    ap (λ (b : Bool). cond b (job_in (stored_deck (stored_of_kept (kept_of_stored cards)))) None) long ∙ ap job_in (same_deck cards job accepted)
  where
    long : nat_le 80 (length (kept_of_stored cards)) ≡ true
    long = grind (arith, nat_tests, some, kept_long cards)

-- a deck, of which each card has 80 bytes
pub submitted_spelled : (job : ℕ) (kept : List ℕ) (count : ℕ) → job < 2 ^ 32 → 1 ≤ count → length kept ≡ 80 * count → count < 2 ^ 32 → IsSpelledDeck count (SubmittedEvent job kept)
submitted_spelled job kept count below some long few = record {
  event = (omega arith, (omega (arith, long), omega (arith, long, few)));
  counted = omega (arith, long, few);
  size = omega (arith, long);
}
