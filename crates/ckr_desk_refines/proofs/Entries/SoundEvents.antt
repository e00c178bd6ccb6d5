-- What sound events give of entries: they end within their data sets and tell the owners of their steps, and each checkpoint in effect is one of the
-- step that its run is in.
use Rattle.std.proofs.Common.{◌≡◌, zero, suc, ℕ, List, [], ◌∷◌, ◌++◌, refl, sym, subst, Option, None}
use Rattle.std.proofs.lemmas.List.{append-nil}
use Rattle.ckr_base.proofs.Options.{some-not-none}
use Rattle.ckr_events.specs.declared.event.Event.{Event}
use Rattle.ckr_events.specs.declared.event.Event.TheVariants.{Checkpointed, Ended, Held, Restarted, Rewritten, Selected, Started, StepEnded}
use Rattle.ckr_events.specs.declared.event.Ending.TheVariants.{Allocation, Coded, Completed}
use Rattle.ckr_events.specs.Jobs.{job_of}
use Rattle.ckr_jcl.specs.declared.deck.Job.{Job}
use Rattle.ckr_points.specs.Events.{AreSound, AreSoundFrom, IsNext}
use Rattle.ckr_points.specs.Office.{Office, no_office, office, office_after, office_from}
use Rattle.ckr_points.specs.Restart.{Decked, after_event}
use Rattle.ckr_points.specs.Rows.{TablesModel}
use Rattle.ckr_points_invariant.specs.Invariant.{IsKept}
use Rattle.ckr_points_invariant.specs.KeptEvents.{AreKept}
use Rattle.ckr_points_invariant.proofs.KeptEvents.{next-kept, none-kept}
use Rattle.ckr_volumes.specs.declared.layout.Layout.{Layout}
use Rattle.ckr_desk_refines.specs.Entries.{AreOwned, AreWithin, HasEntries}
use Rattle.ckr_desk_entries.specs.EntryRefusal.{entry_refusal}
use Rattle.ckr_desk_refines.specs.InEffect.{AreInEffect}
use Rattle.ckr_desk_refines.specs.SharedSets.{LeavesReach}
use Rattle.ckr_desk_refines.proofs.Durable.Continuation.{others-continued}
use Rattle.ckr_desk_refines.proofs.Durable.Restart.{others-restarted}
use Rattle.ckr_desk_refines.proofs.Durable.Fellows.{others-coded, others-completed, others-held, others-quiet, others-refused, others-rewritten, others-selected, others-started, others-step-ended}
use Rattle.ckr_desk_refines.proofs.Entries.Checkpoint.{within-taken}
use Rattle.ckr_desk_refines.proofs.Entries.EffectLaws.{effects-next}
use Rattle.ckr_desk_refines.proofs.Entries.Effects.{no-effects}
use Rattle.ckr_desk_refines.proofs.Entries.Events.{within-next}
use Rattle.ckr_desk_refines.proofs.Entries.Legs.{tables-behind}
use Rattle.ckr_desk_refines.proofs.Entries.Owners.{owned-next}
use Rattle.ckr_desk_refines.proofs.Entries.Refusal.{nothing-refused}
use Rattle.ckr_desk_refines.proofs.Entries.RunningStep.{event-names, others-checkpointed}

-- ---- what an event leaves of other runs

module _ (layout : Layout) (now : Office) (are : AreKept layout now) where
  abbrev kept : IsKept layout now
  kept = are.kept

  pub reach-next : (event : Event) (deck : Option Job) → IsNext layout now (event, deck) → LeavesReach now (job_of event) (after_event event deck now.tables).sets
  reach-next (Selected job initiator zero step id) deck next = others-selected layout now job initiator step id deck kept next.may
  reach-next (Selected job initiator (suc before) step id) deck next =
      others-continued layout now kept job initiator before step id deck next.may (next-kept layout now are (Selected job initiator (suc before) step id) deck next).kept
  reach-next (Started job step items) deck next = others-started layout now job step items deck kept next.may next.carried
  reach-next (Rewritten job taken writes lengths place image) deck next = others-rewritten layout now job taken writes place lengths image deck kept next.may
  reach-next (Checkpointed job id taken writes lengths place bytes) deck next = others-checkpointed layout now kept.events job taken writes place bytes id lengths deck next.may
  reach-next (StepEnded job step rc writes lengths) deck next = others-step-ended layout now job step rc writes lengths deck kept next.may next.carried
  reach-next (Restarted job initiator code checkpoint) deck next = others-restarted layout now job initiator code checkpoint deck kept are.pointed are.ready next.may next.carried
  reach-next (Held job code writes lengths) deck next = others-held layout now job writes code lengths deck kept next.may next.carried
  reach-next (Ended job Completed) deck next = others-completed layout now job deck kept next.may
  reach-next (Ended job (Coded code rule writes lengths)) deck next = others-coded layout now job rule writes code lengths deck kept next.may next.carried
  reach-next (Ended job (Allocation dd cause first second)) deck next = others-refused layout now job dd cause first second deck kept next.may
  reach-next event deck next = others-quiet now event deck refl

  -- ---- one more event

  within-event : (event : Event) (deck : Option Job) → IsNext layout now (event, deck) → AreWithin now.tables.sets → AreWithin (after_event event deck now.tables).sets
  within-event (Checkpointed job id taken writes lengths place bytes) deck next within = within-taken now.tables kept.events.numbered id job taken writes place bytes lengths deck layout now refl kept.events next.may within
  within-event event deck next within = within-next now.tables kept.events.numbered within event deck refl

  -- each checkpoint in effect is one of its run's step behind it too
  pub effects-behind : AreWithin now.tables.sets → AreOwned now → AreInEffect now → (event : Event) (deck : Option Job) → IsNext layout now (event, deck) → AreInEffect (office_after (event, deck) now)
  effects-behind within owners effects event deck next =
      effects-next layout now are effects within owners event deck next (event-names layout now kept.events event deck next.may) (reach-next event deck next)

-- what entries have behind events
record HaveEntries (office : Office) : Type 0 where
  pub within : AreWithin office.tables.sets
  pub owners : AreOwned office
  pub effects : AreInEffect office

entries-next : (layout : Layout) (now : Office) → AreKept layout now → (event : Event) (deck : Option Job) → IsNext layout now (event, deck) → HaveEntries now → HaveEntries (office_after (event, deck) now)
entries-next layout now are event deck next have = record {
  within = subst (λ (tables : TablesModel). AreWithin tables.sets) (sym (tables-behind now event deck)) (within-event layout now are event deck next have.within);
  owners = owned-next layout now are.kept.events have.owners event deck next.may;
  effects = effects-behind layout now are have.within have.owners have.effects event deck next;
}

-- ---- all events

-- behind a front of sound events that begins at an office
entries_from : (layout : Layout) (front more : List Decked) (now : Office) → AreSoundFrom layout now (front ++ more) → AreKept layout now → HaveEntries now → HaveEntries (office_from front now)
entries_from layout [] more now sound are have = have
entries_from layout (event ∷ rest) more now sound are have =
    let next : IsNext layout now (event.0, event.1) = record { may = sound.0.may; carried = sound.0.carried } in
    entries_from layout rest more (office_after event now) sound.1 (next-kept layout now are event.0 event.1 next)
    (entries-next layout now are event.0 event.1 next have)

sound-have : (layout : Layout) (front more : List Decked) → AreSound layout (front ++ more) → HaveEntries (office front)
sound-have layout front more sound =
    entries_from layout front more no_office sound (none-kept layout)
    (record {
      within = λ name table e. absurd (some-not-none table (sym e));
      owners = λ name table e. absurd (some-not-none table (sym e));
      effects = no-effects;
    })

pub sound-entries : (layout : Layout) (front more : List Decked) → AreSound layout (front ++ more) → AreWithin (office front).tables.sets × AreInEffect (office front)
sound-entries layout front more sound = let have = sound-have layout front more sound in (have.within, have.effects)

pub sound-owners : (layout : Layout) (front more : List Decked) → AreSound layout (front ++ more) → AreOwned (office front)
sound-owners layout front more sound = (sound-have layout front more sound).owners

-- so opening refuses no entry of sound events that the image has
pub sound-refused : (layout : Layout) (events : List Decked) (image : List ℕ) → AreSound layout events → HasEntries layout (office events) image → entry_refusal layout (office events).tables image ≡ None
sound-refused layout events image sound has =
    nothing-refused layout (office events) image has
    (sound-entries layout events [] (subst (AreSound layout) (sym (append-nil events)) sound)).1
