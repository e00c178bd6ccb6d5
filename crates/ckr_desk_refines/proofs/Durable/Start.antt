-- What an image has of the data sets goes on where a run is selected, and where a step starts.
use Rattle.std.proofs.Common.{◌≡◌, ◌≤◌, ◌⊎◌, inl, inr, ℕ, Bool, true, false, cond, List, [], ◌∷◌, length, refl, ap, sym, ◌∙◌, subst, Option, Some, None, arith}
use Rattle.std.specs.Option.{is_some, option_map}
use Rattle.std.proofs.lemmas.Bool.{false≢true}
use Rattle.std.proofs.lemmas.Option.{same_Some}
use Rattle.ckr_base.proofs.Bools.{bool-cases}
use Rattle.ckr_base.proofs.Options.{some-not-none}
use Rattle.arrayvec.specs.ArrayVec.{ArrayVec}
use Rattle.ckr_events.specs.declared.event.Event.TheVariants.{Selected, Started}
use Rattle.ckr_events.specs.declared.event.Made.{Made}
use Rattle.ckr_jcl.specs.declared.deck.Job.{Job}
use Rattle.ckr_jcl.specs.declared.deck.Status.{Status}
use Rattle.ckr_jcl.specs.declared.deck.Status.TheVariants.{New, Old, Shr, Mod}
use Rattle.ckr_library.specs.declared.sets.Content.TheVariants.{Plain}
use Rattle.ckr_library.specs.declared.sets.Stamp.{Stamp}
use Rattle.ckr_library.specs.NameMaps.{Name, Named, same_name, entry_at}
use Rattle.ckr_library.proofs.Named.{at-with_changed, at-with_entry}
use Rattle.ckr_meaning.specs.Allotments.{AllotmentModel, DdAllotment, found, made, refused, is_output, opened_all, opened_by, opened_one}
use Rattle.ckr_meaning.specs.Dispositions.{Stock}
use Rattle.ckr_meaning.specs.EffectiveJob.{Effective, OwnedStep, is_among, names_of, placed_in, stamp_of, step_at}
use Rattle.ckr_meaning.specs.LibrarySet.{LibrarySet, Library, record_ways}
use Rattle.ckr_meaning.specs.declared.place.Place.TheVariants.{Within}
use Rattle.ckr_meaning.specs.JobRun.{at}
use Rattle.ckr_meaning.specs.StepRun.{StepStart, fresh_set, made_all, made_at, made_one, opened_at, placed_at, stamp_at, within_at}
use Rattle.ckr_meaning.proofs.WriteSeries.{within_at-none}
use Rattle.ckr_points.specs.Tables.{after_started, fresh_table, made_table, made_tables, parts_from, start_point}
use Rattle.ckr_points.specs.Payload.{carries}
use Rattle.ckr_points.specs.Marks.{with_point}
use Rattle.ckr_points.specs.Office.{Leg, Office, leg_of, model_records, office_after}
use Rattle.ckr_points.specs.Restart.{place_of}
use Rattle.ckr_points.specs.Rows.{RunRow, TableSet, standing_of, table_ways}
use Rattle.ckr_points.specs.Soundness.{may_come}
use Rattle.ckr_points_invariant.specs.Invariant.{AreAlike, IsAtPlace, HasBegun, IsHolder, IsKept, Shape, set_shape, step_now, table_shape}
use Rattle.ckr_points_invariant.specs.RunningSteps.{start_of}
use Rattle.ckr_points_invariant.proofs.Library.Likeness.{made_all-apart, placed-apart}
use Rattle.ckr_points_invariant.proofs.Select.Invariant.{chosen, led_there, waits}
use Rattle.ckr_points_invariant.proofs.WaitingRuns.{by-selected}
use Rattle.ckr_points_invariant.proofs.Holders.Rows.{run-same}
use Rattle.ckr_points_invariant.proofs.Holders.Moves.{standing-is}
use Rattle.ckr_points_invariant.proofs.Stamps.Tables.{alike_set, reached-now}
use Rattle.ckr_points_invariant.proofs.Start.Invariant as starting
use Rattle.ckr_points_invariant.proofs.Start.Event.{StartsNow, by-start}
use Rattle.ckr_points_invariant.proofs.Steps.Walks.{at-before, at-opened, at-within}
use Rattle.ckr_volumes.specs.declared.layout.Layout.{Layout}
use Rattle.ckr_volumes.specs.Records.{records_on}
use Rattle.ckr_volumes.specs.SamePlaces.{SamePlaces, same_places}
use Rattle.ckr_desk_refines.specs.Commits.{HasCommitted}
use Rattle.ckr_desk_refines.specs.Origins.{Stems}
use Rattle.ckr_desk_refines.specs.Origins.Stems.{stays, empty, written}
use Rattle.ckr_desk_refines.proofs.Durable.Stamps.{as-office, counted-plain, goes-on}
use Rattle.ckr_desk_refines.proofs.Durable.Events.{same-sets}
use Rattle.ckr_desk_refines.proofs.Durable.StepEnd.{part-itself}
use Rattle.ckr_desk_refines.proofs.Durable.Stamps.{goes-on}

-- ---- selected

pub selected-stays : (layout : Layout) (office : Office) (image : List ℕ) (job initiator step : ℕ) (id : Option Name) (deck : Option Job) → IsKept layout office → may_come layout office (Selected job initiator 0 step id, deck) ≡ true → IsKept layout (office_after (Selected job initiator 0 step id, deck) office) → HasCommitted layout office image → HasCommitted layout (office_after (Selected job initiator 0 step id, deck) office) image
selected-stays layout office image job initiator step id deck kept may next had =
    by-selected (λ its. IsKept layout its → HasCommitted layout its image) layout office job initiator step id deck kept.events may
    (λ row row_at queued plain free next.
    same-sets layout office (chosen layout office row initiator kept.events row_at queued plain free) image kept next
    (λ run led. led_there layout office row initiator kept.events row_at queued plain free run
    (λ here. false≢true (sym (ap is_some (ap (leg_of office) here ∙ (waits layout office row initiator kept.events row_at queued plain free).alone)) ∙ led)))
    had refl)
    next

-- ---- what a step makes and opens, of the tables

made-from : (stamp : Stamp) (items : List Made) (all : List DdAllotment) (sets : Named TableSet) (name : Name) (table : TableSet) → entry_at (made_tables stamp items all sets) name ≡ Some table → (table.set.length ≡ 0) ⊎ (entry_at sets name ≡ Some table)
made-from stamp items [] sets name table e = inr e
made-from stamp items (placed ∷ rest) sets name table e =
    elim (made-from stamp items rest (made_table stamp items placed placed.allotment sets) name table e) [
      | inl none ↦ inl none
      | inr there ↦ by placed.allotment there
    ]
  where
    new : (same : Bool) → cond same (Some (fresh_table stamp placed (parts_from placed.number items))) (entry_at sets name) ≡ Some table → (table.set.length ≡ 0) ⊎ (entry_at sets name ≡ Some table)
    new true e = inl (ap (λ (t : TableSet). t.set.length) (sym (same_Some (fresh_table stamp placed (parts_from placed.number items)) table e)))
    new false e = inr e

    by : (allotment : AllotmentModel) → entry_at (made_table stamp items placed allotment sets) name ≡ Some table → (table.set.length ≡ 0) ⊎ (entry_at sets name ≡ Some table)
    by found e = inr e
    by made e = new (same_name name placed.name) (sym (at-with_entry placed.name name (fresh_table stamp placed (parts_from placed.number items)) sets) ∙ e)
    by (refused flaw) e = inr e

abbrev LiesAs : Named TableSet → Name → TableSet → Type 0
LiesAs sets name table = (old : TableSet) × (entry_at sets name ≡ Some old) × SamePlaces old.set table.set

opened-places : (stamp : Stamp) (status : Status) (table : TableSet) → SamePlaces table.set (opened_by table_ways stamp status table).set
opened-places stamp New table = record { parts = refl; lrecl = refl }
opened-places stamp Old table = record { parts = refl; lrecl = refl }
opened-places stamp Shr table = record { parts = refl; lrecl = refl }
opened-places stamp Mod table = record { parts = refl; lrecl = refl }

opened-one-from : (stamp : Stamp) (placed : DdAllotment) (allotment : AllotmentModel) (output : Bool) (sets : Named TableSet) (name : Name) (table : TableSet) → entry_at (opened_one table_ways stamp placed allotment output sets) name ≡ Some table → LiesAs sets name table
opened-one-from stamp placed found true sets name table e =
    by (same_name name placed.name) (entry_at sets name) refl (sym (at-with_changed placed.name name change sets) ∙ e)
  where
    change : TableSet → TableSet
    change = opened_by table_ways stamp placed.dd.disp.status

    by : (same : Bool) (entry : Option TableSet) → entry_at sets name ≡ entry → cond same (option_map change entry) entry ≡ Some table → LiesAs sets name table
    by true None is e = absurd (some-not-none table (sym e))
    by true (Some old) is e = (old, is, subst (λ (t : TableSet). SamePlaces old.set t.set) (same_Some (change old) table e) (opened-places stamp placed.dd.disp.status old))
    by false entry is e = (table, is ∙ e, record { parts = refl; lrecl = refl })
opened-one-from stamp placed found false sets name table e = (table, e, record { parts = refl; lrecl = refl })
opened-one-from stamp placed made output sets name table e = (table, e, record { parts = refl; lrecl = refl })
opened-one-from stamp placed (refused flaw) output sets name table e = (table, e, record { parts = refl; lrecl = refl })

opened-from : (stamp : Stamp) (all : List DdAllotment) (sets : Named TableSet) (name : Name) (table : TableSet) → entry_at (opened_all table_ways stamp all sets) name ≡ Some table → LiesAs sets name table
opened-from stamp [] sets name table e = (table, e, record { parts = refl; lrecl = refl })
opened-from stamp (placed ∷ rest) sets name table e =
    let later = opened-from stamp rest (opened_one table_ways stamp placed placed.allotment (is_output placed.dd.role) sets) name table e in
    let first = opened-one-from stamp placed placed.allotment (is_output placed.dd.role) sets name later.0 later.1 in
    (first.0, first.1, record { parts = later.2.parts ∙ first.2.parts; lrecl = later.2.lrecl ∙ first.2.lrecl })

-- ---- the same of the library of records

-- a data set of a library, with its records or emptied
pub record IsOpened (old set : LibrarySet) : Type 0 where
  pub content : set.content ≡ old.content
  pub records : (set.records ≡ []) ⊎ (set.records ≡ old.records)

abbrev OpenedFrom : Library → Name → LibrarySet → Type 0
OpenedFrom library name set = (old : LibrarySet) × (entry_at library name ≡ Some old) × IsOpened old set

set-itself : (set : LibrarySet) → IsOpened set set
set-itself set = record { content = refl; records = inr refl }

set-twice : (one two three : LibrarySet) → IsOpened two one → IsOpened three two → IsOpened three one
set-twice one two three later first = record {
  content = later.content ∙ first.content;
  records = elim later.records [ inl none ↦ inl none | inr same ↦ elim first.records [ inl none ↦ inl (same ∙ none) | inr whole ↦ inr (same ∙ whole) ] ];
}

set-opened : (stamp : Stamp) (status : Status) (set : LibrarySet) → IsOpened set (opened_by record_ways stamp status set)
set-opened stamp New set = record { content = refl; records = inr refl }
set-opened stamp Old set = record { content = refl; records = inl refl }
set-opened stamp Shr set = record { content = refl; records = inr refl }
set-opened stamp Mod set = record { content = refl; records = inr refl }

one-opened : (stamp : Stamp) (placed : DdAllotment) (allotment : AllotmentModel) (output : Bool) (library : Library) (name : Name) (set : LibrarySet) → entry_at (opened_one record_ways stamp placed allotment output library) name ≡ Some set → OpenedFrom library name set
one-opened stamp placed found true library name set e =
    by (same_name name placed.name) (entry_at library name) refl (sym (at-with_changed placed.name name change library) ∙ e)
  where
    change : LibrarySet → LibrarySet
    change = opened_by record_ways stamp placed.dd.disp.status

    by : (same : Bool) (entry : Option LibrarySet) → entry_at library name ≡ entry → cond same (option_map change entry) entry ≡ Some set → OpenedFrom library name set
    by true None is e = absurd (some-not-none set (sym e))
    by true (Some old) is e = (old, is, subst (IsOpened old) (same_Some (change old) set e) (set-opened stamp placed.dd.disp.status old))
    by false entry is e = (set, is ∙ e, set-itself set)
one-opened stamp placed found false library name set e = (set, e, set-itself set)
one-opened stamp placed made output library name set e = (set, e, set-itself set)
one-opened stamp placed (refused flaw) output library name set e = (set, e, set-itself set)

all-opened : (stamp : Stamp) (all : List DdAllotment) (library : Library) (name : Name) (set : LibrarySet) → entry_at (opened_all record_ways stamp all library) name ≡ Some set → OpenedFrom library name set
all-opened stamp [] library name set e = (set, e, set-itself set)
all-opened stamp (placed ∷ rest) library name set e =
    let later = all-opened stamp rest (opened_one record_ways stamp placed placed.allotment (is_output placed.dd.role) library) name set e in
    let first = one-opened stamp placed placed.allotment (is_output placed.dd.role) library name later.0 later.1 in
    (first.0, first.1, set-twice set later.0 first.0 later.2 first.2)

all-made : (stamp : Stamp) (all : List DdAllotment) (library : Library) (name : Name) (set : LibrarySet) → entry_at (made_all stamp all library) name ≡ Some set → (set.records ≡ []) ⊎ (entry_at library name ≡ Some set)
all-made stamp [] library name set e = inr e
all-made stamp (placed ∷ rest) library name set e =
    elim (all-made stamp rest (made_one stamp placed placed.allotment library) name set e) [
      | inl none ↦ inl none
      | inr there ↦ by placed.allotment there
    ]
  where
    new : (same : Bool) → cond same (Some (fresh_set stamp placed.dd)) (entry_at library name) ≡ Some set → (set.records ≡ []) ⊎ (entry_at library name ≡ Some set)
    new true e = inl (ap (λ (s : LibrarySet). s.records) (sym (same_Some (fresh_set stamp placed.dd) set e)))
    new false e = inr e

    by : (allotment : AllotmentModel) → entry_at (made_one stamp placed allotment library) name ≡ Some set → (set.records ≡ []) ⊎ (entry_at library name ≡ Some set)
    by found e = inr e
    by made e = new (same_name name placed.name) (sym (at-with_entry placed.name name (fresh_set stamp placed.dd) library) ∙ e)
    by (refused flaw) e = inr e

-- what a step has as it starts is empty, or is what was opened for it
start-made : (start : StepStart) (name : Name) (set : LibrarySet) → entry_at (within_at start 0) name ≡ Some set → (set.records ≡ []) ⊎ (entry_at (opened_at start) name ≡ Some set)
unfolding made_at
start-made start name set e = all-made (stamp_at start) (placed_at start) (opened_at start) name set (ap (λ library. entry_at library name) (sym (within_at-none start)) ∙ e)

start-opened : (start : StepStart) (name : Name) (set : LibrarySet) → entry_at (opened_at start) name ≡ Some set → OpenedFrom start.standing.sets name set
unfolding opened_at
start-opened start name set e = all-opened (stamp_at start) (placed_at start) start.standing.sets name set e

-- ---- a step starts

pub none-long : (table : TableSet) (set : LibrarySet) → table_shape table ≡ set_shape set → table.set.content ≡ Plain → table.set.length ≡ length set.records
none-long table set same plain =
    sym (counted-plain table.set.content table.set.length plain)
    ∙ ap (λ (shape : Shape). shape.length) same
    ∙ counted-plain set.content (length set.records) (ap (λ (shape : Shape). shape.content) (sym same) ∙ plain)

module _ (layout : Layout) (office : Office) (job : ℕ) (row : RunRow) (leg : Leg) (owned : OwnedStep) (step : ℕ) (items : List Made) (image : List ℕ) (kept : IsKept layout office) (starts : StartsNow layout office job row leg owned step items) where
  abbrev behind : Office
  behind = record office { tables = after_started row owned step items office.tables }

  abbrev placed : List DdAllotment
  placed = placed_in table_ways (standing_of row office.tables) row.job.root owned

  abbrev opened : Named TableSet
  opened = opened_all table_ways (stamp_of owned step) placed office.tables.sets

  abbrev next : RunRow
  next = record row { place = Some (Within step 0); points = with_point (start_point row step opened) row.points }

  abbrev start : StepStart
  start = start_of leg.job leg.start step owned

  leg_step : step_at leg.job step ≡ Some owned
  leg_step = starting.found_leg layout office job row leg owned step items kept.events starts.holder starts.stands starts.found

  place_so : IsAtPlace office.tables row leg
  place_so = kept.events.places job row leg starts.holder

  now : step_now row ≡ step
  now = starting.now layout office job row leg owned step items kept.events starts.holder starts.stands starts.found

  in_reach : (name : Name) → is_among (names_of leg.job.root owned) name ≡ true → is_among leg.reach name ≡ true
  in_reach name among = (place_so.ahead step owned name (subst (λ n. n ≤ step) (sym now) (omega arith)) leg_step among).0

  -- a name that the run doesn't reach
  outside : (name : Name) → is_among leg.reach name ≡ false → entry_at behind.tables.sets name ≡ entry_at office.tables.sets name
  outside name out =
      made_all-apart (stamp_of owned step) items placed opened name
      (placed-apart table_ways (standing_of row office.tables) row.job.root owned 1 owned.step.dds name
      (ap (λ (job : Effective). is_among (names_of job.root owned) name) (sym place_so.job)
      ∙ bool-cases (is_among (names_of leg.job.root owned) name) (λ among. absurd (false≢true (sym out ∙ in_reach name among))) (λ e. e)))
      ∙ starting.opened_out layout office job row leg owned step items kept.events starts.holder starts.stands starts.found name out

  module _ (later : IsKept layout behind) (had : HasCommitted layout office image) where
    holder_then : IsHolder behind job next leg
    holder_then = record {
      row_at = run-same (record office.tables { sets = behind.tables.sets }) next row job starts.holder.row_at (kept.events.numbered job row starts.holder.row_at);
      holds = starts.holds;
      leg_at = starts.holder.leg_at;
    }

    alike_then : (name : Name) → is_among leg.reach name ≡ true → AreAlike behind.tables.sets (within_at start 0) name
    alike_then name among =
        later.events.held job next leg name holder_then among
        ∙ ap (λ (standing : Stock LibrarySet). option_map set_shape (entry_at standing.sets name)) (standing-is behind job next leg holder_then.row_at holder_then.leg_at)
        ∙ ap (λ library. option_map set_shape (entry_at library name)) (at-within leg.job leg.start step 0 owned leg_step)

    begun_then : (name : Name) (set : LibrarySet) → entry_at (within_at start 0) name ≡ Some set → HasBegun behind name set
    begun_then name set e =
        later.stamps.places job leg (Within step 0) holder_then.leg_at
        (reached-now behind.tables next leg (later.events.places job next leg holder_then)) name set
        (ap (λ library. entry_at library name) (at-within leg.job leg.start step 0 owned leg_step) ∙ e)

    -- what the run has at its place before
    alike_before : (name : Name) → is_among leg.reach name ≡ true → AreAlike office.tables.sets (at leg.job leg.start (place_of row)).sets name
    alike_before name among =
        kept.events.held job row leg name starts.holder among
        ∙ ap (λ (standing : Stock LibrarySet). option_map set_shape (entry_at standing.sets name)) (standing-is office job row leg starts.holder.row_at starts.holder.leg_at)

    begun_before : (name : Name) (set : LibrarySet) → entry_at (at leg.job leg.start (place_of row)).sets name ≡ Some set → HasBegun office name set
    begun_before name set e =
        kept.stamps.places job leg (place_of row) starts.holder.leg_at (reached-now office.tables row leg (kept.events.places job row leg starts.holder)) name set e

    -- what the step has as it starts is empty, or has the records that were there
    from_before : (name : Name) (set : LibrarySet) → entry_at (opened_at start) name ≡ Some set → OpenedFrom (at leg.job leg.start (place_of row)).sets name set
    from_before name set e =
        elim starts.stands [
          | inl before ↦
              subst (λ library. OpenedFrom library name set)
              (sym (ap (λ (standing : Stock LibrarySet). standing.sets) (ap (at leg.job leg.start) before ∙ at-before leg.job leg.start step)))
              (start-opened start name set e)
          | inr there ↦
              (set, ap (λ library. entry_at library name) (ap (λ (standing : Stock LibrarySet). standing.sets) (ap (at leg.job leg.start) there) ∙ at-opened leg.job leg.start step owned leg_step) ∙ e, set-itself set)
        ]

    -- a data set that was opened with its records
    opened_with : (name : Name) (table old : TableSet) (set was : LibrarySet) → entry_at behind.tables.sets name ≡ Some table → table.set.content ≡ Plain → entry_at office.tables.sets name ≡ Some old → SamePlaces old.set table.set
        → entry_at (within_at start 0) name ≡ Some set → table_shape table ≡ set_shape set → entry_at (at leg.job leg.start (place_of row)).sets name ≡ Some was → table_shape old ≡ set_shape was → set.content ≡ was.content → set.records ≡ was.records
        → records_on image layout table.set table.set.length ≡ model_records behind name
    opened_with name table old set was e plain before places at_start shape at_place shaped content records =
        let here : set.content ≡ Plain = ap (λ (shape : Shape). shape.content) (sym shape) ∙ plain in
        let there : old.set.content ≡ Plain = ap (λ (shape : Shape). shape.content) shaped ∙ sym content ∙ here in
        same_places image layout old.set table.set places table.set.length
        ∙ ap (λ (n : ℕ). records_on image layout old.set n) (none-long table set shape plain ∙ ap length records ∙ sym (none-long old was shaped there))
        ∙ had name old before there
        ∙ as-office layout office name old was kept before there shaped (begun_before name was at_place)
        ∙ sym records
        ∙ sym (as-office layout behind name table set later e plain shape (begun_then name set at_start))

    inside : (name : Name) (table : TableSet) → entry_at behind.tables.sets name ≡ Some table → table.set.content ≡ Plain → is_among leg.reach name ≡ true → entry_at opened name ≡ Some table → Stems layout office.tables.sets behind image name table
    inside name table e plain among at_opened =
        let old = opened-from (stamp_of owned step) placed office.tables.sets name table at_opened in
        let its = alike_set table (entry_at (within_at start 0) name) (ap (option_map table_shape) (sym e) ∙ alike_then name among) in
        let was = alike_set old.0 (entry_at (at leg.job leg.start (place_of row)).sets name) (ap (option_map table_shape) (sym old.1) ∙ alike_before name among) in
        elim (start-made start name its.0 its.1) [
          | inl none ↦ empty (none-long table its.0 its.2 plain ∙ ap length none)
          | inr at_start ↦
              let from = from_before name its.0 at_start in
              let same : from.0 ≡ was.0 = same_Some from.0 was.0 (sym from.1 ∙ was.1) in
              elim from.2.records [
                | inl none ↦ empty (none-long table its.0 its.2 plain ∙ ap length none)
                | inr records ↦
                    written (opened_with name table old.0 its.0 was.0 e plain old.1 old.2 its.1 its.2 was.1 was.2 (from.2.content ∙ ap (λ (s : LibrarySet). s.content) same) (records ∙ ap (λ (s : LibrarySet). s.records) same))
              ]
        ]

    pub started-has : HasCommitted layout behind image
    started-has =
        goes-on layout office behind image kept later (λ run led. refl) had
        (λ name table e plain.
        bool-cases (is_among leg.reach name)
        (λ among.
        elim (made-from (stamp_of owned step) items placed opened name table e) [
          | inl none ↦ empty none
          | inr there ↦ inside name table e plain among there
        ])
        (λ out. stays table (sym (outside name out) ∙ e) (part-itself table)))

pub started-stays : (layout : Layout) (office : Office) (image : List ℕ) (job step : ℕ) (items : ArrayVec Made) (deck : Option Job) → IsKept layout office → may_come layout office (Started job step items, deck) ≡ true → carries layout office (Started job step items) deck ≡ true → IsKept layout (office_after (Started job step items, deck) office) → HasCommitted layout office image → HasCommitted layout (office_after (Started job step items, deck) office) image
started-stays layout office image job step items deck kept may carried later had =
    by-start (λ its. IsKept layout its → HasCommitted layout its image) layout office job step items deck kept.events may carried
    (λ row leg owned now later. started-has layout office job row leg owned step items.items image kept now later had)
    later
