-- With one event more in the book.
use Rattle.std.proofs.Common.{◌≡◌, ◌+◌, ◌++◌, ℕ, List, [], ◌∷◌, length, refl, ap, sym, ◌∙◌, subst, append-nil, Option, Some, None, Result, Ok, Err}
use Rattle.std.proofs.lemmas.Grind.{flat_map-append}
use Rattle.ckr_events.proofs.Events.{event_again}
use Rattle.ckr_events.specs.declared.event.Event.{Event}
use Rattle.ckr_events.specs.declared.event.Event.TheVariants.{Submitted}
use Rattle.ckr_events.specs.Event.{IsEvent, IsSmall, event_of, spelling}
use Rattle.ckr_desk_refines.specs.Memory.Replay.{deck_of, replayed}
use Rattle.ckr_points.specs.Events.{AreSound, IsNext}
use Rattle.ckr_points.specs.Office.{office, office_after}
use Rattle.ckr_points.specs.Restart.{Decked}
use Rattle.ckr_points.specs.Rows.{TablesModel, no_tables}
use Rattle.ckr_points_invariant.proofs.EventList.{office-more, sound-more}
use Rattle.ckr_desk_store.specs.OpenImages.{event_records}
use Rattle.ckr_volumes.specs.declared.layout.Layout.{Layout}
use Rattle.ckr_desk.specs.Opening.{behind_read, behind_record, behind_records, or_bad}
use Rattle.ckr_desk.specs.Soundness.{decked_by, events_in, office_on}

abbrev one_in : List ℕ → List Decked
one_in bytes = decked_by (event_of bytes)

pub events-more : (records : List (List ℕ)) (event : Event) → IsEvent event → events_in (records ++ spelling event ∷ []) ≡ events_in records ++ (event, deck_of event) ∷ []
events-more records event is =
    flat_map-append one_in records (spelling event ∷ [])
    ∙ ap (λ more. events_in records ++ more) (append-nil (one_in (spelling event)) ∙ ap decked_by (event_again event is))

pub office-same : (layout : Layout) (old new : List ℕ) → event_records layout new ≡ event_records layout old → office_on layout new ≡ office_on layout old
unfolding office_on
office-same layout old new same = ap (λ records. office (events_in records)) same

pub office-grown : (layout : Layout) (old new : List ℕ) (event : Event) → IsEvent event → event_records layout new ≡ event_records layout old ++ spelling event ∷ []
    → office_on layout new ≡ office_after (event, deck_of event) (office_on layout old)
unfolding office_on
office-grown layout old new event is grown =
    ap (λ records. office (events_in records)) grown
    ∙ ap office (events-more (event_records layout old) event is)
    ∙ office-more (events_in (event_records layout old)) (event, deck_of event)

-- sound events of an image are sound with one that comes so
pub sound-grown : (layout : Layout) (image : List ℕ) (event : Event) → IsEvent event → AreSound layout (events_in (event_records layout image))
    → IsNext layout (office_on layout image) (event, deck_of event) → AreSound layout (events_in (event_records layout image ++ spelling event ∷ []))
unfolding office_on
sound-grown layout image event is sound next =
    subst (AreSound layout) (sym (events-more (event_records layout image) event is))
    (sound-more layout (events_in (event_records layout image)) (event, deck_of event) sound next)

unfoldable tables_in : Result TablesModel ℕ → TablesModel
tables_in (Ok tables) = tables
tables_in (Err place) = no_tables

err_not_ok : (place : ℕ) (tables : TablesModel) → Err place ≡ Ok tables → ⊥
err_not_ok place tables same = subst (λ (r : Result TablesModel ℕ). elim r as (λ _. Type 0) [ Ok _ ↦ ⊥ | Err _ ↦ Unit {0} ]) same tt

appended : (layout : Layout) (start : TablesModel) (place : ℕ) (first more : List (List ℕ)) (tables : TablesModel) → behind_records layout start place first ≡ Ok tables
    → (next : ℕ) × (behind_records layout start place (first ++ more) ≡ behind_records layout tables next more)
unfolding tables_in
appended layout start place [] more tables is = (place, ap (λ t. behind_records layout t place more) (ap tables_in is))
appended layout start place (bytes ∷ rest) more tables is =
    by_case (λ went later. appended layout went (place + (length bytes + 5)) rest more tables later) (behind_record layout start bytes) is
  where
    by_case : ((went : TablesModel) → behind_records layout went (place + (length bytes + 5)) rest ≡ Ok tables
        → (next : ℕ) × (behind_records layout went (place + (length bytes + 5)) (rest ++ more) ≡ behind_records layout tables next more))
        → (behind : Option TablesModel) → or_bad place behind (λ went. behind_records layout went (place + (length bytes + 5)) rest) ≡ Ok tables
        → (next : ℕ) × (or_bad place behind (λ went. behind_records layout went (place + (length bytes + 5)) (rest ++ more)) ≡ behind_records layout tables next more)
    by_case later None is = absurd (err_not_ok place tables is)
    by_case later (Some went) is = later went is

one_record : (layout : Layout) (tables : TablesModel) (place : ℕ) (event : Event) (behind : TablesModel) → event_of (spelling event) ≡ Ok event → replayed layout tables event ≡ Some behind
    → behind_records layout tables place (spelling event ∷ []) ≡ Ok behind
unfolding behind_record
one_record layout tables place event behind reads follows =
    ap (λ (o : Option TablesModel). or_bad place o (λ went. Ok went)) (ap (λ (r : Result Event ℕ). behind_read layout tables r) reads ∙ follows)

pub opens-grown : (layout : Layout) (records : List (List ℕ)) (tables behind : TablesModel) (event : Event) → behind_records layout no_tables 0 records ≡ Ok tables → IsEvent event
    → replayed layout tables event ≡ Some behind → behind_records layout no_tables 0 (records ++ spelling event ∷ []) ≡ Ok behind
opens-grown layout records tables behind event opens is follows =
    let more = appended layout no_tables 0 records (spelling event ∷ []) tables opens in
    more.1 ∙ one_record layout tables more.0 event behind (event_again event is) follows

-- only an event that submits has a deck
pub deck-none : (event : Event) → IsSmall event → deck_of event ≡ None
deck-none (Submitted job cards) small = absurd small
deck-none _ small = refl
