-- Records that bring about tables spell events of decks: each deck is that of its cards.
use Rattle.std.proofs.Common.{◌≡◌, ◌==◌, ◌&&◌, ◌+◌, ℕ, suc, not, Bool, true, false, cond, List, [], ◌∷◌, ◌++◌, length, refl, sym, subst, Option, Some, None, Result, Ok, Err}
use Rattle.std.specs.Option.{is_some}
use Rattle.ckr_base.proofs.Bools.{and-first, and-second}
use Rattle.ckr_base.proofs.Options.{is_some-true}
use Rattle.ckr_events.specs.declared.event.Event.{Event}
use Rattle.ckr_events.specs.declared.event.Event.TheVariants.{Submitted}
use Rattle.ckr_events.specs.Event.{event_of}
use Rattle.ckr_desk_refines.specs.Memory.RewriteCounts.{may_count}
use Rattle.ckr_desk_refines.specs.Memory.Replay.{deck_of, goes_on, has_few_digits, replayed}
use Rattle.ckr_desk_turn.specs.DeckEvents.{AreDeckEvents, IsDeckEvent, IsKeptDeck}
use Rattle.ckr_points.specs.Follows.{follows, is_empty}
use Rattle.ckr_points.specs.Restart.{after_event}
use Rattle.ckr_points.specs.Rows.{TablesModel}
use Rattle.ckr_desk_turn.specs.Cards.{kept_deck}
use Rattle.ckr_volumes.specs.declared.layout.Layout.{Layout}
use Rattle.ckr_desk.specs.Opening.{behind_read, behind_record, behind_records, or_bad}
use Rattle.ckr_desk.specs.Soundness.{decked_by, events_in}

-- the deck of the cards of an event that follows
kept-so : (cards : List ℕ) → is_some (kept_deck cards) ≡ true → IsKeptDeck cards (kept_deck cards)
kept-so cards some = is_some-true (kept_deck cards) some (λ deck is. subst (IsKeptDeck cards) (sym is) is)

pub went-on : (layout : Layout) (tables : TablesModel) (event : Event) → goes_on layout tables event (deck_of event) ≡ true → IsDeckEvent event (deck_of event)
went-on layout tables (Submitted job cards) goes =
    kept-so cards
    (and-second (job == suc (length tables.runs) && not (is_empty cards)) (is_some (kept_deck cards))
    (and-first (follows layout tables (Submitted job cards) (kept_deck cards)) (may_count (Submitted job cards) tables.sets)
    (and-second (has_few_digits (Submitted job cards)) _ goes)))
went-on layout tables _ goes = tt

abbrev or_none : Bool → Layout → TablesModel → Event → Option TablesModel
or_none goes layout tables event = cond goes (Some (after_event event (deck_of event) tables)) None

not_err : (place : ℕ) (tables : TablesModel) → ◌≡◌ {A = Result TablesModel ℕ} (Err place) (Ok tables) → ⊥
not_err place tables same = cc

pub deck-records : (layout : Layout) (start : TablesModel) (place : ℕ) (records : List (List ℕ)) (tables : TablesModel) → behind_records layout start place records ≡ Ok tables → AreDeckEvents (events_in records)
unfolding behind_record replayed
deck-records layout start place [] tables is = tt
deck-records layout start place (bytes ∷ rest) tables is =
    by_read (event_of bytes) (λ went later. deck-records layout went (place + (length bytes + 5)) rest tables later) is
  where
    by_test : (event : Event) (goes : Bool) → goes_on layout start event (deck_of event) ≡ goes
        → ((went : TablesModel) → behind_records layout went (place + (length bytes + 5)) rest ≡ Ok tables → AreDeckEvents (events_in rest))
        → or_bad place (or_none goes layout start event) (λ went. behind_records layout went (place + (length bytes + 5)) rest) ≡ Ok tables
        → AreDeckEvents ((event, deck_of event) ∷ events_in rest)
    by_test event true goes later is = (went-on layout start event goes, later (after_event event (deck_of event) start) is)
    by_test event false goes later is = absurd (not_err place tables is)

    by_read : (read : Result Event ℕ) → ((went : TablesModel) → behind_records layout went (place + (length bytes + 5)) rest ≡ Ok tables → AreDeckEvents (events_in rest))
        → or_bad place (behind_read layout start read) (λ went. behind_records layout went (place + (length bytes + 5)) rest) ≡ Ok tables
        → AreDeckEvents (decked_by read ++ events_in rest)
    by_read (Err offset) later is = absurd (not_err place tables is)
    by_read (Ok event) later is = by_test event (goes_on layout start event (deck_of event)) refl later is
