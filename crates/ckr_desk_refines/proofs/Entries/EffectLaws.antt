-- What an event leaves of the checkpoints in effect, by its kind.
use Rattle.std.proofs.Common.{◌≡◌, zero, suc, true, false, refl, sym, Option}
use Rattle.std.proofs.lemmas.Bool.{false≢true}
use Rattle.ckr_events.specs.declared.event.Event.{Event}
use Rattle.ckr_events.specs.declared.event.Event.TheVariants.{Cancelled, Checkpointed, Denied, Ended, Held, Purged, Released, Restarted, Rewritten, Selected, Started, StepEnded, Submitted}
use Rattle.ckr_events.specs.Jobs.{job_of}
use Rattle.ckr_jcl.specs.declared.deck.Job.{Job}
use Rattle.ckr_points.specs.Events.{IsNext}
use Rattle.ckr_points.specs.Office.{Office, office_after}
use Rattle.ckr_points.specs.Restart.{after_event}
use Rattle.ckr_points.specs.Rows.{TablesModel}
use Rattle.ckr_points.specs.Soundness.{may_come}
use Rattle.ckr_points_invariant.specs.Invariant.{IsAgreed}
use Rattle.ckr_points_invariant.specs.KeptEvents.{AreKept}
use Rattle.ckr_points_invariant.specs.EarlierRuns.{continues}
use Rattle.ckr_points_invariant.proofs.WaitingRuns.{follows-of}
use Rattle.ckr_volumes.specs.declared.layout.Layout.{Layout}
use Rattle.ckr_desk_refines.specs.Entries.{AreOwned, AreWithin, takes_checkpoint}
use Rattle.ckr_desk_refines.specs.InEffect.{AreInEffect, HasStepNames}
use Rattle.ckr_desk_refines.specs.SharedSets.{LeavesReach}
use Rattle.ckr_desk_refines.proofs.Entries.EffectContinuation.{effects-continued}
use Rattle.ckr_desk_refines.proofs.Entries.EffectEvents as events
use Rattle.ckr_desk_refines.proofs.Entries.Effects.{effects-led}
use Rattle.ckr_desk_refines.proofs.Entries.Legs.{legs-stay, tables-behind}
use Rattle.ckr_desk_refines.proofs.Entries.Restart.{stays-checkpoint, stays-step}

module _ (layout : Layout) (now : Office) (are_kept : AreKept layout now) (are : AreInEffect now) (within : AreWithin now.tables.sets) (owners : AreOwned now) where
  abbrev agreed : IsAgreed layout now
  agreed = are_kept.kept.events

  -- the office with the tables behind an event
  abbrev with_tables : TablesModel → Office
  with_tables later = record now { tables = later }

  -- an event by which no run continues another one
  effects-on : (event : Event) (deck : Option Job) → continues event ≡ false → may_come layout now (event, deck) ≡ true → (takes_checkpoint event ≡ true → HasStepNames now.tables (job_of event)) → LeavesReach now (job_of event) (after_event event deck now.tables).sets → AreInEffect (with_tables (after_event event deck now.tables))
  effects-on (Submitted job cards) deck on may names leaves = events.stays-submitted layout now agreed job are cards deck leaves
  effects-on (Selected job initiator zero step id) deck on may names leaves =
      events.stays-selected layout now agreed job are initiator step id deck (follows-of layout now (Selected job initiator 0 step id) deck may) leaves
  effects-on (Selected job initiator (suc before) step id) deck on may names leaves = absurd (false≢true (sym on))
  effects-on (Denied job rule name) deck on may names leaves =
      events.stays-denied layout now agreed job are rule name deck (follows-of layout now (Denied job rule name) deck may) leaves
  effects-on (Started job step items) deck on may names leaves =
      events.stays-started layout now agreed job are step items deck (follows-of layout now (Started job step items) deck may) leaves
  effects-on (Rewritten job taken writes lengths place image) deck on may names leaves =
      events.stays-rewritten layout now agreed job are within taken writes place lengths image deck (follows-of layout now (Rewritten job taken writes lengths place image) deck may) leaves
  effects-on (Checkpointed job id taken writes lengths place bytes) deck on may names leaves =
      events.stays-checkpointed layout now agreed job are within taken writes place bytes id lengths deck (names refl) (follows-of layout now (Checkpointed job id taken writes lengths place bytes) deck may) leaves
  effects-on (Cancelled job) deck on may names leaves = events.stays-cancelled layout now agreed job are deck leaves
  effects-on (StepEnded job step rc writes lengths) deck on may names leaves =
      events.stays-step_ended layout now agreed job are step rc writes lengths deck leaves
  effects-on (Restarted job initiator code false) deck on may names leaves =
      stays-step layout now agreed job are initiator code deck leaves
  effects-on (Restarted job initiator code true) deck on may names leaves =
      stays-checkpoint layout now agreed job are are_kept.ready initiator code deck leaves
  effects-on (Held job code writes lengths) deck on may names leaves =
      events.stays-held layout now agreed job are within writes code lengths deck (follows-of layout now (Held job code writes lengths) deck may) leaves
  effects-on (Released job) deck on may names leaves = events.stays-released layout now agreed job are deck leaves
  effects-on (Ended job ending) deck on may names leaves = events.stays-ended layout now agreed job are ending deck leaves
  effects-on (Purged job) deck on may names leaves =
      events.stays-purged layout now agreed job are deck (follows-of layout now (Purged job) deck may) leaves

  by-on : (event : Event) (deck : Option Job) → continues event ≡ false → may_come layout now (event, deck) ≡ true → (takes_checkpoint event ≡ true → HasStepNames now.tables (job_of event)) → LeavesReach now (job_of event) (after_event event deck now.tables).sets → AreInEffect (office_after (event, deck) now)
  by-on event deck on may names leaves =
      effects-led (with_tables (after_event event deck now.tables)) (office_after (event, deck) now) (tables-behind now event deck) (legs-stay layout now agreed event deck may)
      (effects-on event deck on may names leaves)

  -- any event
  pub effects-next : (event : Event) (deck : Option Job) → IsNext layout now (event, deck) → (takes_checkpoint event ≡ true → HasStepNames now.tables (job_of event)) → LeavesReach now (job_of event) (after_event event deck now.tables).sets → AreInEffect (office_after (event, deck) now)
  effects-next (Selected job initiator (suc before) step id) deck next names leaves = effects-continued layout now are_kept owners job initiator before step id deck next are leaves
  effects-next (Selected job initiator zero step id) deck next names leaves = by-on (Selected job initiator zero step id) deck refl next.may names leaves
  effects-next event deck next names leaves = by-on event deck refl next.may names leaves
