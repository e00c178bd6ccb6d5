-- How many runs there are behind sound events.
use Rattle.std.proofs.Common.{◌≡◌, ◌<◌, ◌+◌, ◌==◌, ◌&&◌, ℕ, suc, true, false, not, List, [], ◌∷◌, length, refl, sym, ◌∙◌, subst, Option, Some, None, arith}
use Rattle.std.specs.Option.{is_some}
use Rattle.std.proofs.lemmas.Bool.{false≢true}
use Rattle.std.proofs.lemmas.List.{length-append}
use Rattle.std.proofs.lemmas.List.Sums.{sum_by-cons}
use Rattle.ckr_base.proofs.Bools.{and-first, and-second}
use Rattle.ckr_desk_memory.proofs.RunNumbers.{numbered-behind}
use Rattle.ckr_desk_memory.proofs.Runs.{by-submission, numbers-stay}
use Rattle.ckr_desk_turn.specs.Queue.{AreNumbered}
use Rattle.ckr_events.specs.declared.event.Event.{Event}
use Rattle.ckr_events.specs.declared.event.Event.TheVariants.{Submitted}
use Rattle.ckr_jcl.specs.declared.deck.Job.{Job}
use Rattle.ckr_desk_memory.specs.Model.Invariant.{is_submission}
use Rattle.ckr_points.specs.Events.{AreSound, AreSoundFrom}
use Rattle.ckr_points.specs.Follows.{follows, is_empty}
use Rattle.ckr_points.specs.Office.{Office, no_office, office, office_after, office_from}
use Rattle.ckr_points.specs.Restart.{Decked, after_event}
use Rattle.ckr_points.specs.Rows.{RunRow, TablesModel}
use Rattle.ckr_points.specs.Tables.{queued_run}
use Rattle.ckr_volumes.specs.declared.layout.Layout.{Layout}
use Rattle.ckr_desk_refines.proofs.Entries.Legs.{tables-behind}
use Rattle.ckr_desk_refines.specs.Counts.{KeepCards, KeepsCards, decks_in, decks_of}

-- the runs are numbered in their order, and there are so many
record AreMany (many : ℕ) (runs : List RunRow) : Type 0 where
  pub numbered : AreNumbered 1 runs
  pub long : length runs ≡ many

module _ (layout : Layout) (tables : TablesModel) (many : ℕ) (are : AreMany many tables.runs) where
  -- behind an event there are as many more as it submits
  abbrev IsMore : Event → Type 0
  IsMore event = (deck : Option Job) → follows layout tables event deck ≡ true → length (after_event event deck tables).runs ≡ many + decks_of event

  submitted-more : (job : ℕ) (cards : List ℕ) → IsMore (Submitted job cards)
  submitted-more job cards None follow = absurd (false≢true (and-second (job == suc (length tables.runs) && not (is_empty cards)) false follow))
  submitted-more job cards (Some deck) follow = omega (arith, length-append tables.runs (queued_run job deck ∷ []), are.long)

  none-submitted : (event : Event) → is_submission event ≡ false → decks_of event ≡ 0
  none-submitted (Submitted job cards) is = absurd (false≢true (sym is))
  none-submitted event is = refl

  other-more : (event : Event) → is_submission event ≡ false → IsMore event
  other-more event other deck follow = omega (arith, (numbers-stay tables are.numbered layout event deck other follow).long, are.long, none-submitted event other)

  next-more : (event : Event) (deck : Option Job) → follows layout tables event deck ≡ true → AreMany (many + decks_of event) (after_event event deck tables).runs
  next-more event deck follow = record {
    numbered = numbered-behind layout tables event deck follow are.numbered;
    long = by-submission IsMore submitted-more other-more event deck follow;
  }

many-from : (layout : Layout) (events : List Decked) (now : Office) (many : ℕ) → AreSoundFrom layout now events → AreMany many now.tables.runs → AreMany (many + decks_in events) (office_from events now).tables.runs
many-from layout [] now many sound are = record { numbered = are.numbered; long = omega (arith, are.long) }
many-from layout (event ∷ rest) now many sound are =
    let behind : AreMany (many + decks_of event.0) (office_after event now).tables.runs =
    subst (λ (tables : TablesModel). AreMany (many + decks_of event.0) tables.runs) (sym (tables-behind now event.0 event.1))
    (next-more layout now.tables many are event.0 event.1 (and-first (follows layout now.tables event.0 event.1) _ sound.0.may)) in
    let all = many-from layout rest (office_after event now) (many + decks_of event.0) sound.1 behind in
    record { numbered = all.numbered; long = omega (arith, all.long, sum_by-cons (λ (one : Decked). decks_of one.0) event rest) }

pub sound-runs : (layout : Layout) (events : List Decked) → AreSound layout events → length (office events).tables.runs ≡ decks_in events
sound-runs layout events sound =
    (many-from layout events no_office 0 sound (record { numbered = tt; long = refl })).long ∙ (let same : 0 + decks_in events ≡ decks_in events = omega arith in same)

-- ---- the cards of decks

some-kept : (cards : List ℕ) → not (is_empty cards) ≡ true → 0 < length cards
some-kept [] some = absurd (false≢true some)
some-kept (card ∷ cards) some = omega arith

event-keeps : (layout : Layout) (tables : TablesModel) (event : Event) (deck : Option Job) → follows layout tables event deck ≡ true → KeepsCards event
event-keeps layout tables (Submitted job cards) deck follow = some-kept cards (and-second (job == suc (length tables.runs)) _ (and-first _ (is_some deck) follow))
event-keeps layout tables event deck follow = tt

keep-from : (layout : Layout) (events : List Decked) (now : Office) → AreSoundFrom layout now events → KeepCards events
keep-from layout [] now sound = tt
keep-from layout (event ∷ rest) now sound =
    (event-keeps layout now.tables event.0 event.1 (and-first (follows layout now.tables event.0 event.1) _ sound.0.may), keep-from layout rest (office_after event now) sound.1)

pub sound-cards : (layout : Layout) (events : List Decked) → AreSound layout events → KeepCards events
sound-cards layout events sound = keep-from layout events no_office sound
