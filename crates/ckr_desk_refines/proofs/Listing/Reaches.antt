-- A run reaches only names that it holds, so that a name that no run holds has what the ended jobs left: so it is as a run is selected, and later events
-- change neither what it reaches nor its deck and its job.
use Rattle.std.proofs.Common.{◌≡◌, ◌==◌, ◌+◌, ℕ, zero, suc, Bool, true, false, List, [], ◌∷◌, ◌++◌, map, refl, ap, sym, ◌∙◌, subst, arith, Option, Some, None}
use Rattle.std.specs.Prelude.{slice_get}
use Rattle.std.specs.List.{list_any}
use Rattle.std.specs.Option.{is_some, option_map, option_map_or}
use Rattle.std.proofs.lemmas.Bool.{and_from, false≢true, or_left, or_right}
use Rattle.std.proofs.lemmas.Option.{same_Some, slice_get-map}
use Rattle.ckr_base.proofs.Numbers.{number-cases}
use Rattle.ckr_base.proofs.Options.{is_some-true, option-cases, some-not-none, some-one}
use Rattle.ckr_base.proofs.Sequences.{find-holds}
use Rattle.ckr_events.specs.declared.event.Event.{Event}
use Rattle.ckr_events.specs.declared.event.Event.TheVariants.{Ended, Selected, Submitted}
use Rattle.ckr_jcl.specs.declared.deck.Job.{Job}
use Rattle.ckr_entry.specs.declared.point.Mark.{Mark}
use Rattle.ckr_library.specs.NameMaps.{Name, Named}
use Rattle.ckr_meaning.specs.EffectiveJob.{Effective, is_among, names_of_job}
use Rattle.ckr_points.specs.Events.{AreSound, AreSoundFrom, IsNext}
use Rattle.ckr_points.specs.Marks.{deck_names, lost_names, mark_at, own_names}
use Rattle.ckr_points.specs.Office.{Leg, Office, continued_leg, holder_of, leg_of, library_for, no_office, office, office_after, office_from, office_selected, standing_at}
use Rattle.ckr_points.specs.Restart.{Back, Decked, after_continued_at, after_entry_continued, after_event, continued_row, deferred_entry, deferred_start, kept_at, sets_back, syschk_name}
use Rattle.ckr_points.specs.Rows.{KeptEntry, RunRow, TableSet, TablesModel, run_of}
use Rattle.ckr_points.specs.Soundness.{may_come}
use Rattle.ckr_points.specs.Tables.{fresh_effect}
use Rattle.ckr_points_invariant.specs.Invariant.{IsAgreed, IsHolder, IsKnownLeg}
use Rattle.ckr_points_invariant.specs.KeptEvents.{AreKept}
use Rattle.ckr_points_invariant.specs.EarlierRuns.{IsEntryOf, MayContinue, continues}
use Rattle.ckr_points_invariant.proofs.Continuations.EarlierRun.{Coming, leg_from, row_then, tables_then}
use Rattle.ckr_points_invariant.proofs.Continuations.Follows.{after-selected}
use Rattle.ckr_points_invariant.proofs.Continuations.Offices as offices
use Rattle.ckr_points_invariant.proofs.Continuations.Selections.Earlier.{start-covers}
use Rattle.ckr_points_invariant.proofs.Continuations.Selections.Entries.{entry-covers}
use Rattle.ckr_points_invariant.proofs.Holders.Rows.{leg-number, run-other, run-same}
use Rattle.ckr_points_invariant.proofs.KeptEvents.{next-kept, none-kept}
use Rattle.ckr_points_invariant.proofs.Select.Holders.{holder-of}
use Rattle.ckr_points_invariant.proofs.Select.Invariant as select
use Rattle.ckr_points_invariant.proofs.WaitingRuns.{by-selected}
use Rattle.ckr_desk_memory.specs.Model.Invariant.{is_submission}
use Rattle.ckr_volumes.specs.declared.layout.Layout.{Layout}
use Rattle.ckr_desk_memory.proofs.Runs.{Kind, kind_of, runs-stay}
use Rattle.ckr_desk_turn.specs.Queue.{AreNumbered}
use Rattle.ckr_desk_refines.specs.Holders.{held_names, is_held_by, names_held}
use Rattle.ckr_desk_refines.specs.Listing.{is_held}
use Rattle.ckr_desk_refines.proofs.Durable.Continuation.{legs-behind, may-so, rows-behind}
use Rattle.ckr_desk_refines.proofs.Listing.ContinuedRuns.{led, reach-held}
use Rattle.ckr_desk_refines.proofs.Listing.HeldNames.{plain-held}

-- what a run reaches are names that it holds
abbrev IsHeldReach : RunRow → Leg → Type 0
IsHeldReach row leg = (name : Name) → is_among leg.reach name ≡ true → is_among (held_names row) name ≡ true

-- so it is with each run that was selected
abbrev AreHeldReaches : TablesModel → (ℕ → Option Leg) → Type 0
AreHeldReaches tables led_by = (number : ℕ) (row : RunRow) (leg : Leg) → run_of tables number ≡ Some row → led_by number ≡ Some leg → IsHeldReach row leg

abbrev HeldReaches : Office → Type 0
HeldReaches now = AreHeldReaches now.tables (leg_of now)

-- ---- runs that stay what they are

numbered-from : (first : ℕ) (rows : List RunRow) → ((place : ℕ) (row : RunRow) → slice_get rows place ≡ Some row → row.number ≡ first + place) → AreNumbered first rows
numbered-from first [] each = tt
numbered-from first (row ∷ rows) each =
    (let its = each zero row refl in omega (arith, its), numbered-from (suc first) rows (λ place one at. let its = each (suc place) one at in omega (arith, its)))

-- they hold the names that they held
kinds-stay : (tables later : TablesModel) (led_by : ℕ → Option Leg) → map kind_of later.runs ≡ map kind_of tables.runs → AreHeldReaches tables led_by → AreHeldReaches later led_by
kinds-stay tables later led_by same are zero row leg at found = absurd (some-not-none row (sym at))
kinds-stay tables later led_by same are (suc place) row leg at found = by (slice_get tables.runs place) refl
  where
    kinds : option_map kind_of (Some row) ≡ option_map kind_of (slice_get tables.runs place)
    kinds =
        ap (option_map kind_of) (sym at) ∙ sym (slice_get-map kind_of later.runs place)
        ∙ ap (λ (all : List Kind). slice_get all place) same ∙ slice_get-map kind_of tables.runs place

    by : (before : Option RunRow) → slice_get tables.runs place ≡ before → IsHeldReach row leg
    by None e = absurd (some-not-none (kind_of row) (kinds ∙ ap (option_map kind_of) e))
    by (Some old) e =
        let kind : kind_of row ≡ kind_of old = same_Some (kind_of row) (kind_of old) (kinds ∙ ap (option_map kind_of) e) in
        λ name among. ap (λ (k : Kind). is_among (names_held k.1 k.2) name) kind ∙ are (suc place) old leg e found name among

-- a deck that is submitted leaves the runs before it
get-front : {A : Type 0} (items others : List A) (place : ℕ) (item : A) → slice_get items place ≡ Some item → slice_get (items ++ others) place ≡ Some item
get-front [] others place item at = absurd (some-not-none item (sym at))
get-front (first ∷ items) others zero item at = at
get-front (first ∷ items) others (suc place) item at = get-front items others place item at

module _ (layout : Layout) (now : Office) (agreed : IsAgreed layout now) (are : HeldReaches now) where
  -- the run of a leg
  listed : (number : ℕ) (leg : Leg) → leg_of now number ≡ Some leg → is_some (run_of now.tables number) ≡ true
  listed number leg found =
      let its : IsKnownLeg now leg = find-holds (IsKnownLeg now) (λ (one : Leg). one.number == number) now.legs leg agreed.legs found in
      ap (λ n. is_some (run_of now.tables n)) (sym (leg-number now number leg found)) ∙ its.listed

  submitted-stay : (job : ℕ) (cards : List ℕ) (deck : Option Job) → HeldReaches (office_after (Submitted job cards, deck) now)
  submitted-stay job cards None number row leg at found = are number row leg at found
  submitted-stay job cards (Some deck) zero row leg at found = absurd (some-not-none row (sym at))
  submitted-stay job cards (Some deck) (suc place) row leg at found =
      is_some-true (slice_get now.tables.runs place) (listed (suc place) leg found)
      (λ old here.
      subst (λ (one : RunRow). IsHeldReach one leg) (same_Some old row (sym (get-front now.tables.runs _ place old here) ∙ at))
      (are (suc place) old leg here found))

  -- ---- a run that continues no other one is selected

  selected-held : (job initiator step : ℕ) (id : Option Name) (deck : Option Job) → may_come layout now (Selected job initiator 0 step id, deck) ≡ true → HeldReaches (office_after (Selected job initiator 0 step id, deck) now)
  selected-held job initiator step id deck may =
      by-selected HeldReaches layout now job initiator step id deck agreed may
      (λ row row_at queued plain free number other leg at found.
      let mine : RunRow = select.next layout now row initiator agreed row_at queued plain free in
      let own : Leg = select.leg layout now row initiator agreed row_at queued plain free in
      let behind : Office = select.chosen layout now row initiator agreed row_at queued plain free in
      number-cases number row.number
      (λ here.
      subst (λ (one : RunRow). IsHeldReach one leg) (some-one mine other (run_of behind.tables row.number) (run-same now.tables mine row row.number row_at refl) (ap (run_of behind.tables) (sym here) ∙ at))
      (subst (IsHeldReach mine) (some-one own leg (leg_of behind row.number) (select.led_here layout now row initiator agreed row_at queued plain free) (ap (leg_of behind) (sym here) ∙ found))
      (subst (λ (job : Effective). (name : Name) → is_among (names_of_job job) name ≡ true → is_among (names_held row.deck job) name ≡ true)
      (sym (select.waits layout now row initiator agreed row_at queued plain free).job) (plain-held row.number row.deck))))
      (λ apart.
      are number other leg (sym (run-other now.tables mine number apart) ∙ at) (sym (select.led_there layout now row initiator agreed row_at queued plain free number apart) ∙ found)))

-- ---- a run is selected to continue another one

module _ (layout : Layout) (now : Office) (are : AreKept layout now) (job initiator before step : ℕ) where
  -- its row and its leg
  abbrev HoldsIts : TablesModel → Type 0
  HoldsIts tables = (row : RunRow) (leg : Leg) → run_of tables job ≡ Some row → leg_of (office_selected now job tables) job ≡ Some leg → IsHeldReach row leg

  -- where it comes to a point whose marks are those of the earlier run's job, and loses what no longer exists
  comes-held : (id : Option Name) (its : MayContinue layout now.tables job initiator (suc before) step id) (earlier : Leg) → leg_of now (suc before) ≡ Some earlier → (coming : Coming) (marks : List Mark)
      → ((name : Name) → is_some (mark_at marks name) ≡ is_among (names_of_job its.other.job) name) → (sets : Named TableSet)
      → coming.lost ≡ lost_names marks (own_names (row_then now its.row its.other step its.point initiator coming) ++ deck_names its.other.job.root its.row.number its.row.deck) sets coming.passed
      → HoldsIts (tables_then now (row_then now its.row its.other step its.point initiator coming) sets)
  comes-held id its earlier found_leg coming marks covers sets lost row leg at found =
      let its_led = led layout now are job initiator before step id its earlier found_leg in
      let start = start-covers layout now job initiator before step id its earlier.start earlier.reach are.kept.events are.pointed its_led in
      let next : RunRow = row_then now its.row its.other step its.point initiator coming in
      let own : Leg = continued_leg now next (leg_from its.other earlier.start earlier.reach) in
      let tables : TablesModel = tables_then now next sets in
      subst (λ (one : RunRow). IsHeldReach one leg)
      (some-one next row (run_of tables job) (offices.row-behind layout now job initiator before step id its earlier.start earlier.reach are.kept are.begun are.pointed its_led start coming sets) at)
      (subst (IsHeldReach next)
      (some-one own leg (leg_of (office_selected now job tables) job) (offices.leg-behind layout now job initiator before step id its earlier.start earlier.reach are.kept are.begun are.pointed its_led start coming sets) found)
      (reach-held layout now are job initiator before step id its earlier found_leg coming marks covers sets lost))

  by-id : (id : Option Name) (its : MayContinue layout now.tables job initiator (suc before) step id) (earlier : Leg) → leg_of now (suc before) ≡ Some earlier
      → HoldsIts (after_continued_at (continued_row its.row its.other step its.point initiator now.tables.sets) its.owned step its.point id now.tables)
  by-id None its earlier found_leg =
      let first : RunRow = continued_row its.row its.other step its.point initiator now.tables.sets in
      let back : Back = deferred_start first its.owned step its.point in
      let sets = sets_back first its.owned back now.tables.sets in
      comes-held None its earlier found_leg
      (record { place = back.place; count = back.count; passed = back.passed; lost = lost_names back.marks (own_names first ++ deck_names first.job.root first.number first.deck) sets back.passed; effect = first.in_effect })
      back.marks (start-covers layout now job initiator before step None its earlier.start earlier.reach are.kept.events are.pointed (led layout now are job initiator before step None its earlier found_leg)) sets refl
  by-id (Some id) its earlier found_leg = by (kept_at now.tables.sets (syschk_name its.row.deck) id) refl its.entry
    where
      by : (entry : Option KeptEntry) → kept_at now.tables.sets (syschk_name its.row.deck) id ≡ entry → IsEntryOf its.other step (Some id) entry
          → HoldsIts (option_map_or (λ entry. after_entry_continued (continued_row its.row its.other step its.point initiator now.tables.sets) its.owned step (syschk_name its.row.deck) entry now.tables) entry now.tables)
      by None kept of_run = absurd of_run
      by (Some entry) kept of_run =
          let first : RunRow = record (continued_row its.row its.other step its.point initiator now.tables.sets) { in_effect = Some (fresh_effect (syschk_name its.row.deck) entry.kept) } in
          let back : Back = deferred_entry first step entry.point in
          let sets = sets_back first its.owned back now.tables.sets in
          comes-held (Some id) its earlier found_leg
          (record { place = back.place; count = back.count; passed = back.passed; lost = lost_names back.marks (own_names first ++ deck_names first.job.root first.number first.deck) sets back.passed; effect = first.in_effect })
          back.marks
          (entry-covers layout now job initiator before step id its earlier.start earlier.reach are.kept.events are.pointed (led layout now are job initiator before step (Some id) its earlier found_leg) entry kept) sets refl

  continued-held : (id : Option Name) (deck : Option Job) → may_come layout now (Selected job initiator (suc before) step id, deck) ≡ true → HeldReaches now → HeldReaches (office_after (Selected job initiator (suc before) step id, deck) now)
  continued-held id deck may reaches number row leg at found =
      let its = may-so layout now are.kept.events job initiator before step id deck may in
      number-cases number job
      (λ here.
      is_some-true (leg_of now (suc before)) (are.begun.led (suc before) its.other its.other_at its.selected)
      (λ earlier found_leg.
      subst HoldsIts (sym (after-selected layout now.tables job initiator before step id deck its)) (by-id id its earlier found_leg) row leg
      (ap (run_of (after_event (Selected job initiator (suc before) step id) deck now.tables)) (sym here) ∙ at)
      (ap (leg_of (office_after (Selected job initiator (suc before) step id, deck) now)) (sym here) ∙ found)))
      (λ apart.
      reaches number row leg (sym (rows-behind layout now are.kept.events job initiator before step id deck may number apart) ∙ at)
      (sym (legs-behind layout now are.kept.events job initiator before step id deck may number apart) ∙ found))

-- ---- any event

module _ (layout : Layout) (now : Office) (are : AreKept layout now) (reaches : HeldReaches now) where
  numbered : AreNumbered 1 now.tables.runs
  numbered = numbered-from 1 now.tables.runs (λ place row at. let its = are.kept.events.numbered (suc place) row at in omega (arith, its))

  other-held : (event : Event) (deck : Option Job) → continues event ≡ false → is_submission event ≡ false → AreHeldReaches (after_event event deck now.tables) (leg_of now)
  other-held event deck plain other = kinds-stay now.tables (after_event event deck now.tables) (leg_of now) (runs-stay now.tables numbered event deck plain other) reaches

  reaches-next : (event : Event) (deck : Option Job) → IsNext layout now (event, deck) → HeldReaches (office_after (event, deck) now)
  reaches-next (Submitted job cards) deck next = submitted-stay layout now are.kept.events reaches job cards deck
  reaches-next (Selected job initiator zero step id) deck next = selected-held layout now are.kept.events reaches job initiator step id deck next.may
  reaches-next (Selected job initiator (suc before) step id) deck next = continued-held layout now are job initiator before step id deck next.may reaches
  reaches-next (Ended job ending) deck next = other-held (Ended job ending) deck refl refl
  reaches-next event deck next = other-held event deck refl refl

reaches-from : (layout : Layout) (events : List Decked) (now : Office) → AreSoundFrom layout now events → AreKept layout now → HeldReaches now → AreKept layout (office_from events now) × HeldReaches (office_from events now)
reaches-from layout [] now sound are reaches = (are, reaches)
reaches-from layout (event ∷ rest) now sound are reaches =
    let next : IsNext layout now (event.0, event.1) = record { may = sound.0.may; carried = sound.0.carried } in
    reaches-from layout rest (office_after event now) sound.1 (next-kept layout now are event.0 event.1 next) (reaches-next layout now are reaches event.0 event.1 next)

sound-reaches : (layout : Layout) (events : List Decked) → AreSound layout events → AreKept layout (office events) × HeldReaches (office events)
sound-reaches layout events sound = reaches-from layout events no_office sound (none-kept layout) (λ number row leg at found. absurd (some-not-none leg (sym found)))

-- ---- what the runs hold

-- each name that a run reaches it holds
pub reached-held : (layout : Layout) (events : List Decked) (number : ℕ) (row : RunRow) (leg : Leg) (name : Name) → AreSound layout events → IsHolder (office events) number row leg → is_among leg.reach name ≡ true → is_among (held_names row) name ≡ true
reached-held layout events number row leg name sound holder among = (sound-reaches layout events sound).1 number row leg holder.row_at holder.leg_at name among

any-get : {A : Type 0} (test : A → Bool) (items : List A) (place : ℕ) (item : A) → slice_get items place ≡ Some item → test item ≡ true → list_any test items ≡ true
any-get test [] place item at passes = absurd (some-not-none item (sym at))
any-get test (first ∷ items) zero item at passes = or_left (test first) (list_any test items) (ap test (same_Some first item at) ∙ passes)
any-get test (first ∷ items) (suc place) item at passes = or_right (test first) (list_any test items) (any-get test items place item at passes)

held-by : (tables : TablesModel) (number : ℕ) (row : RunRow) (name : Name) → run_of tables number ≡ Some row → is_held_by name row ≡ true → is_held tables name ≡ true
held-by tables zero row name at holds = absurd (some-not-none row (sym at))
held-by tables (suc place) row name at holds = any-get (is_held_by name) tables.runs place row at holds

-- so what none holds is what the ended jobs left
pub free-left : (layout : Layout) (events : List Decked) (name : Name) → AreSound layout events → is_held (office events).tables name ≡ false → library_for (office events) name ≡ (office events).library
free-left layout events name sound free =
    ap (λ (leg : Option Leg). option_map_or (λ leg. (standing_at (office events) leg).sets) leg (office events).library)
    (option-cases (holder_of (office events) name) (λ none. none)
    (λ leg found.
    let are = (sound-reaches layout events sound).0 in
    let its = holder-of layout (office events) name leg are.kept.events found in
    absurd (false≢true (
    sym free
    ∙ held-by (office events).tables leg.number its.0 name its.1.holder.row_at
    (and_from _ _ its.1.holder.holds (reached-held layout events leg.number its.0 leg name sound its.1.holder its.1.among))))))
