-- A record with more bytes than a deck of 100,000 cards brings no tables about.
use Rattle.std.proofs.Common.{◌≡◌, ◌≤◌, ◌<◌, ◌/◌, ℕ, true, List, length, refl, Option, Some, None, Result, Ok, Err, arith}
use Rattle.ckr_base.proofs.Bools.{bool-cases}
use Rattle.ckr_events.specs.declared.event.Event.{Event}
use Rattle.ckr_events.specs.declared.event.Event.TheVariants.{Submitted}
use Rattle.ckr_events.specs.Event.{event_of, most_bytes}
use Rattle.ckr_events.proofs.Sizes.{short_events}
use Rattle.ckr_desk_refines.proofs.Memory.Replays.{replayed-none}
use Rattle.ckr_desk_refines.specs.Memory.Replay.{deck_of, goes_on, replayed}
use Rattle.ckr_jcl_decks.proofs.CardLimit.{few-stored}
use Rattle.ckr_desk_turn.proofs.KeptDecks.{kept_read, stored_long}
use Rattle.ckr_desk_turn.specs.DeckEvents.{IsKeptDeck}
use Rattle.ckr_desk_turn.specs.Cards.{kept_deck, stored_of_kept}
use Rattle.ckr_jcl.specs.declared.deck.Job.{Job}
use Rattle.ckr_points.specs.Rows.{TablesModel}
use Rattle.ckr_volumes.specs.declared.layout.Layout.{Layout}
use Rattle.ckr_desk.proofs.Openings.DeckRecords.{went-on}
use Rattle.ckr_desk.specs.Opening.{behind_read, behind_record}

-- the cards of an event that goes on are few
few-kept : (cards : List ℕ) (deck : Option Job) → IsKeptDeck cards deck → kept_deck cards ≡ deck → length cards / 80 ≤ 100000
few-kept cards None kept is = absurd kept
few-kept cards (Some job) kept is =
    let few : length (stored_of_kept cards) / 81 ≤ 100000 = few-stored (stored_of_kept cards) job (kept_read cards job is) in
    omega (arith, few, stored_long cards)

short-event : (layout : Layout) (tables : TablesModel) (event : Event) → goes_on layout tables event (deck_of event) ≡ true → most_bytes event ≤ 8000009
short-event layout tables (Submitted job cards) goes =
    let few : length cards / 80 ≤ 100000 = few-kept cards (kept_deck cards) (went-on layout tables (Submitted job cards) goes) refl in
    omega (arith, few)
short-event layout tables event goes = omega arith

long-stays : (layout : Layout) (tables : TablesModel) (event : Event) → 8000009 < most_bytes event → replayed layout tables event ≡ None
long-stays layout tables event long = bool-cases (goes_on layout tables event (deck_of event))
    (λ goes. let short : most_bytes event ≤ 8000009 = short-event layout tables event goes in absurd (omega (arith, long, short)))
    (λ not. replayed-none layout tables event not)

pub long_behind : (layout : Layout) (tables : TablesModel) (bytes : List ℕ) → 8000009 < length bytes → behind_record layout tables bytes ≡ None
unfolding behind_record
long_behind layout tables bytes long = by (event_of bytes) refl
  where
    by : (read : Result Event ℕ) → event_of bytes ≡ read → behind_read layout tables read ≡ None
    by (Err offset) is = refl
    by (Ok event) is =
        let most : length bytes ≤ most_bytes event = short_events bytes event is in
        long-stays layout tables event (omega (arith, long, most))
