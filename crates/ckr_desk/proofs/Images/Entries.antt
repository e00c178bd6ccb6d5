-- The entries that the tables keep, in the images of a disk, and behind an event.
use Rattle.std.proofs.Common.{◌≡◌, ◌≤◌, ◌+◌, ◌++◌, ℕ, true, IsTrue, List, [], ◌∷◌, find, refl, ap, sym, ◌∙◌, subst, append-nil, Option, None, Some, Ok, arith}
use Rattle.std.specs.Option.{option_map_or}
use Rattle.ckr_base.proofs.Numbers.{nat_le-from, nat_le-true}
use Rattle.ckr_base.proofs.Sequences.{find-holds}
use Rattle.ckr_events.specs.declared.event.Event.{Event}
use Rattle.ckr_events.specs.declared.event.Event.TheVariants.{Checkpointed}
use Rattle.ckr_events.specs.Event.{spelling}
use Rattle.ckr_desk_refines.proofs.DiskEntries.PlacedEntries.{placed-same}
use Rattle.ckr_desk_refines.specs.Memory.Replay.{deck_of}
use Rattle.ckr_desk_refines.proofs.Memory.Replays.{replayed-some}
use Rattle.ckr_desk_refines.proofs.Entries.Checkpoint.{has-taken}
use Rattle.ckr_desk_refines.proofs.Entries.CheckSets.{sound-plain}
use Rattle.ckr_desk_refines.proofs.Entries.Events.{has-next}
use Rattle.ckr_desk_refines.proofs.Entries.Images.{moved-kept}
use Rattle.ckr_desk_refines.proofs.Entries.SoundEvents.{sound-entries, sound-refused}
use Rattle.ckr_desk_refines.proofs.Entries.There.{has-then}
use Rattle.ckr_desk_refines.specs.Entries.{AreWithin, HasEntries, HasNewEntry, OnlyCheckSetsKeep, SameKept}
use Rattle.ckr_desk_refines.specs.InEffect.{AreInEffect, IsInEffect}
use Rattle.ckr_desk_refines.specs.Moves.{HasSameRecords}
use Rattle.ckr_desk_store.specs.OpenImages.{event_records}
use Rattle.ckr_desk_turn.proofs.Runs.Lists.{events-kept}
use Rattle.ckr_desk_turn.specs.Desk.{DeskModel}
use Rattle.ckr_desk_turn.specs.DeckEvents.{AreDeckEvents}
use Rattle.ckr_jcl.specs.declared.deck.Job.{Job}
use Rattle.ckr_library.specs.Catalog.{ends_within, records_of}
use Rattle.ckr_library.specs.NameMaps.{entry_at, same_name}
use Rattle.ckr_library.specs.declared.sets.Kept.{Kept}
use Rattle.ckr_library.proofs.Named.{each-at}
use Rattle.ckr_points.specs.Events.{AreSound}
use Rattle.ckr_points.specs.Office.{Office, office, office_after}
use Rattle.ckr_points.specs.Restart.{after_event}
use Rattle.ckr_points.specs.Rows.{EffectPoint, KeptEntry, RunRow, TableSet, TablesModel, no_tables}
use Rattle.ckr_points.specs.Soundness.{AreLaidOut, may_come}
use Rattle.ckr_points_invariant.proofs.EventList.{office-more}
use Rattle.ckr_points_invariant.specs.Invariant.{IsAgreed}
use Rattle.ckr_volumes.specs.Layouts.{StandsIn}
use Rattle.ckr_volumes.specs.declared.layout.Layout.{Layout}
use Rattle.ckr_desk.proofs.Images.NextEvent.{events-more, opens-grown, sound-grown}
use Rattle.ckr_desk.proofs.Openings.DeckRecords.{deck-records}
use Rattle.ckr_desk.proofs.Trust.Events.{IsComing}
use Rattle.ckr_desk.specs.Entries.{bad_entry, has_places, is_placed}
use Rattle.ckr_desk.specs.Opening.{behind_records}
use Rattle.ckr_desk.specs.Soundness.{IsTrusted, events_in, office_on}
use Rattle.ckr_desk.specs.State.{DeskView}

-- ---- what is refused

-- an entry that ends within the length of its data set has its places
pub ends-more : (length space : ℕ) (kept : Kept) → length ≤ space → IsTrue (ends_within length kept) → ends_within space kept ≡ true
ends-more length space kept fits ends = let end : kept.place + records_of kept.bytes ≤ length = nat_le-true _ _ ends in nat_le-from (kept.place + records_of kept.bytes) space (omega (arith, fits, end))

effect-placed : (layout : Layout) (office : Office) → AreLaidOut layout office.tables.sets → AreWithin office.tables.sets → (row : RunRow) (effect : EffectPoint) → IsInEffect office row effect → is_placed office.tables effect ≡ true
effect-placed layout office laid within row effect its = by (entry_at office.tables.sets effect.set) refl its.at
  where
    by : (found : Option TableSet) → entry_at office.tables.sets effect.set ≡ found → option_map_or (λ (table : TableSet). find (λ (entry : KeptEntry). same_name entry.kept.id effect.kept.id) table.entries) found None ≡ Some its.entry → option_map_or (has_places effect.kept) found true ≡ true
    by None e at = refl
    by (Some table) e at =
        let ends : IsTrue (ends_within table.set.length its.entry.kept) =
        find-holds (λ (entry : KeptEntry). IsTrue (ends_within table.set.length entry.kept)) (λ (entry : KeptEntry). same_name entry.kept.id effect.kept.id) table.entries its.entry (within effect.set table e) at in
        let stands : StandsIn layout table.set = each-at (λ (table : TableSet). StandsIn layout table.set) office.tables.sets laid.stand effect.set table e in
        subst (λ (kept : Kept). ends_within table.set.space kept ≡ true) its.kept (ends-more table.set.length table.set.space its.entry.kept stands.length_fits ends)

-- ---- records that bring about tables

module _ (layout : Layout) (records : List (List ℕ)) (tables : TablesModel) (sound : AreSound layout (events_in records)) (brings : behind_records layout no_tables 0 records ≡ Ok tables) where
  decks : AreDeckEvents (events_in records)
  decks = deck-records layout no_tables 0 records tables brings

  kept-within : AreWithin (office (events_in records)).tables.sets × AreInEffect (office (events_in records))
  kept-within = sound-entries layout (events_in records) [] (subst (AreSound layout) (sym (append-nil (events_in records))) sound)

  pub are-within : AreWithin (office (events_in records)).tables.sets
  are-within = kept-within.0

  pub are-in-effect : AreInEffect (office (events_in records))
  are-in-effect = kept-within.1

  pub checks-keep : OnlyCheckSetsKeep (office (events_in records)).tables.sets
  checks-keep =
      sound-plain layout (events_in records) [] (subst (AreSound layout) (sym (append-nil (events_in records))) sound) (subst AreDeckEvents (sym (append-nil (events_in records))) decks)

  -- none of the entries is refused
  pub none-bad : (image : List ℕ) → HasEntries layout (office (events_in records)) image → bad_entry layout (office (events_in records)).tables image ≡ None
  none-bad image has =
      placed-same layout (office (events_in records)).tables image
      (λ number row effect at is.
      effect-placed layout (office (events_in records)) (events-kept layout (events_in records) sound decks).events.extents kept-within.0 row effect (kept-within.1 number row effect at is))
      ∙ sound-refused layout (events_in records) image sound has

-- so it is with an image that has these records
pub none-bad-on : (layout : Layout) (image : List ℕ) (tables : TablesModel) → AreSound layout (events_in (event_records layout image)) → behind_records layout no_tables 0 (event_records layout image) ≡ Ok tables
    → HasEntries layout (office_on layout image) image → bad_entry layout (office_on layout image).tables image ≡ None
unfolding office_on
none-bad-on layout image tables sound brings has = none-bad layout (event_records layout image) tables sound brings image has

-- ---- an event

-- one by which a checkpoint is taken needs its entry
abbrev pub HasNewOne : Layout → Office → Event → List ℕ → Type 0
HasNewOne layout now (Checkpointed job id taken writes lengths place bytes) image = HasNewEntry layout now (record { id = id; run = job; place = place; bytes = bytes }) taken writes lengths.items image
HasNewOne layout now _ image = Unit {0}

module _ (layout : Layout) (now : Office) (agreed : IsAgreed layout now) (image : List ℕ) (has : HasEntries layout now image) where
  has-behind : (event : Event) (deck : Option Job) → may_come layout now (event, deck) ≡ true → HasNewOne layout now event image → HasEntries layout (office_after (event, deck) now) image
  has-behind (Checkpointed job id taken writes lengths place bytes) deck may new = has-taken layout now agreed.numbered id job taken writes place bytes lengths deck image has new
  has-behind event deck may new = has-next layout now agreed image has event deck refl may

-- ---- a trusted disk

module _ {D : Type 0} (told : Type 0) (content : D → List ℕ) (may_leave : D → List ℕ → Type 0) (old : DeskView D) (trusted : IsTrusted told content may_leave old) where
  abbrev layout : Layout
  layout = old.store.layout

  abbrev before : List (List ℕ)
  before = event_records old.store.layout (content old.store.disk)

  abbrev office_now : Office
  office_now = office_on old.store.layout (content old.store.disk)

  pub within-now : AreWithin office_now.tables.sets
  unfolding office_on
  within-now = are-within layout before old.jobs.tables.desk trusted.events trusted.opens

  -- an image with the same records of the data sets that keep entries
  pub kept-has : (from image : List ℕ) → HasEntries layout office_now from → SameKept layout office_now.tables.sets from image → HasEntries layout office_now image
  kept-has from image has same = has-then layout office_now from image within-now same has

  pub same-has : (from image : List ℕ) → HasEntries layout office_now from → HasSameRecords layout from image → HasEntries layout office_now image
  same-has from image has same = kept-has from image has (moved-kept layout office_now.tables.sets trusted.stands.is_desk.kept.events.extents from image same)

  module _ (event : Event) (desk : DeskModel) (coming : IsComing told content may_leave event old desk) where
    abbrev grown : List (List ℕ)
    grown = before ++ spelling event ∷ []

    abbrev tables_then : TablesModel
    tables_then = after_event event (deck_of event) old.jobs.tables.desk

    sound-then : AreSound layout (events_in grown)
    sound-then = sound-grown layout (content old.store.disk) event coming.is_event trusted.events coming.next

    brings-then : behind_records layout no_tables 0 grown ≡ Ok tables_then
    brings-then = opens-grown layout before old.jobs.tables.desk tables_then event trusted.opens coming.is_event (replayed-some layout old.jobs.tables.desk event coming.goes)

    office-then : office (events_in grown) ≡ desk.office
    unfolding office_on
    office-then = ap office (events-more before event coming.is_event) ∙ office-more (events_in before) (event, deck_of event) ∙ sym coming.office

    pub within-then : AreWithin desk.office.tables.sets
    within-then = subst (λ (o : Office). AreWithin o.tables.sets) office-then (are-within layout grown tables_then sound-then brings-then)

    pub checks-then : OnlyCheckSetsKeep desk.office.tables.sets
    checks-then = subst (λ (o : Office). OnlyCheckSetsKeep o.tables.sets) office-then (checks-keep layout grown tables_then sound-then brings-then)

    pub laid-then : AreLaidOut layout desk.office.tables.sets
    laid-then = subst (λ (l : Layout). AreLaidOut l desk.office.tables.sets) coming.layout_is coming.is_desk.kept.events.extents

    -- an image that had the entries before has them behind it
    behind-has : (image : List ℕ) → HasNewOne layout office_now event image → HasEntries layout office_now image → HasEntries layout desk.office image
    behind-has image new has =
        subst (λ (o : Office). HasEntries layout o image) (sym coming.office)
        (has-behind layout office_now trusted.stands.is_desk.kept.events image has event (deck_of event) coming.next.may new)

    -- and so has another one with the same records of the data sets that keep entries then
    pub behind-kept : (from image : List ℕ) → HasNewOne layout office_now event from → HasEntries layout office_now from → SameKept layout desk.office.tables.sets from image → HasEntries layout desk.office image
    behind-kept from image new has same = has-then layout desk.office from image within-then same (behind-has from new has)

    pub behind-same : (from image : List ℕ) → HasNewOne layout office_now event from → HasEntries layout office_now from → HasSameRecords layout from image → HasEntries layout desk.office image
    behind-same from image new has same = behind-kept from image new has (moved-kept layout desk.office.tables.sets laid-then from image same)
