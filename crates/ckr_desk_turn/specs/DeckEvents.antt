-- The events of a desk, whose decks are those of their cards.
use Rattle.std.specs.Prelude.{◌≡◌, ℕ, List, Option, None, Some}
use Rattle.std.specs.List.{AllByRecursion}
use Rattle.ckr_events.specs.declared.event.Event.{Event}
use Rattle.ckr_events.specs.declared.event.Event.TheVariants.{Submitted}
use Rattle.ckr_jcl.specs.declared.deck.Job.{Job}
use Rattle.ckr_points.specs.Restart.{Decked}
use Rattle.ckr_desk_turn.specs.Cards.{kept_deck}

-- the deck of an event is that of its cards
abbrev pub IsKeptDeck : List ℕ → Option Job → Type 0
IsKeptDeck cards None = ⊥
IsKeptDeck cards (Some deck) = kept_deck cards ≡ Some deck

abbrev pub IsDeckEvent : Event → Option Job → Type 0
IsDeckEvent (Submitted job cards) deck = IsKeptDeck cards deck
IsDeckEvent _ deck = Unit {0}

abbrev pub AreDeckEvents : List Decked → Type 0
AreDeckEvents events = AllByRecursion (λ (event : Decked). IsDeckEvent event.0 event.1) events
