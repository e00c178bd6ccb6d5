-- The cards of a deck as a reader stores them, and as an event keeps them.
use Rattle.std.specs.Prelude.{◌≡◌, ℕ, ◌*◌, ◌+◌, ◌/◌, nat_le, if◌then◌else◌, List, [], ◌∷◌, ◌++◌, length, take, flat_map, Option, None, Some, Result, Ok, Err}
use Rattle.std.specs.Simd.{first_chunks}
use Rattle.ckr_jcl.specs.declared.deck.Job.{Job}
use Rattle.ckr_jcl_decks.specs.Parts.Fault.{Fault}
use Rattle.ckr_jcl_decks.specs.Deck.{stored_deck}
use Rattle.ckr_events.specs.declared.event.Event.{Event}
use Rattle.ckr_events.specs.Event.{IsEvent, IsCounted, spelling}

-- an event keeps the 80 columns of each card; a reader tells behind each card whether its line was longer
abbrev pub with_short_mark : List ℕ → List ℕ
with_short_mark card = card ++ 0 ∷ []

-- no line of a kept deck was longer
unfoldable pub stored_of_kept : List ℕ → List ℕ
stored_of_kept cards = flat_map with_short_mark (first_chunks 80 (length cards / 80) cards)

abbrev pub columns_of : List ℕ → List ℕ
columns_of stored = take 80 stored

unfoldable pub kept_of_stored : List ℕ → List ℕ
kept_of_stored cards = flat_map columns_of (first_chunks 81 (length cards / 81) cards)

abbrev pub job_in : Result Job Fault → Option Job
job_in (Ok job) = Some job
job_in (Err fault) = None

-- the deck of kept cards, of which there is at least one
unfoldable pub kept_deck : List ℕ → Option Job
kept_deck cards = if nat_le 80 (length cards) then job_in (stored_deck (stored_of_kept cards)) else None

-- a deck of so many cards, of 80 bytes each, has its one spelling
pub record IsSpelledDeck (cards : ℕ) (told : Event) : Type 0 where
  pub event : IsEvent told
  pub counted : IsCounted told
  pub size : length (spelling told) ≡ 9 + 80 * cards
