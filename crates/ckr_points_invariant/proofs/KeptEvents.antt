-- All that is kept from event to event: where there are no events, behind one more, and at every prefix of sound events.
use Rattle.std.proofs.Common.{◌≡◌, zero, suc, true, false, List, [], ◌∷◌, ◌++◌, refl, Option}
use Rattle.ckr_events.specs.declared.event.Event.{Event}
use Rattle.ckr_events.specs.declared.event.Event.TheVariants.{Restarted, Selected}
use Rattle.ckr_jcl.specs.declared.deck.Job.{Job}
use Rattle.ckr_volumes.specs.declared.layout.Layout.{Layout}
use Rattle.ckr_points.specs.Events.{AreSound, AreSoundFrom, IsNext}
use Rattle.ckr_points.specs.Office.{Office, no_office, office, office_after, office_from}
use Rattle.ckr_points.specs.Restart.{Decked}
use Rattle.ckr_points.specs.Soundness.{IsSoundOffice}
use Rattle.ckr_points_invariant.specs.Continuations.{goes_back}
use Rattle.ckr_points_invariant.specs.KeptEvents.{AreKept}
use Rattle.ckr_points_invariant.specs.EarlierRuns.{continues}
use Rattle.ckr_points_invariant.proofs.Continuations.Events.{continued-kept}
use Rattle.ckr_points_invariant.proofs.EventLaws.{no_events, sound}
use Rattle.ckr_points_invariant.proofs.EventList.{sound-front}
use Rattle.ckr_points_invariant.proofs.Points.Lists.{pointed-next}
use Rattle.ckr_points_invariant.proofs.Readiness.Office.{entries-restorable, steps-restorable}
use Rattle.ckr_points_invariant.proofs.Readiness.SoundEvents.{none-ready, ready-next}
use Rattle.ckr_points_invariant.proofs.Restart.Event.{entry-keeps, entry-pointed, start-keeps, start-pointed}
use Rattle.ckr_points_invariant.proofs.SoundEvents.{kept-next}
use Rattle.ckr_points_invariant.proofs.StartedSteps.SoundEvents.{next-begun, none-begun}
use Rattle.ckr_points_invariant.proofs.WrittenEntries.SoundEvents.{next-written, none-written}

pub none-kept : (layout : Layout) → AreKept layout no_office
none-kept layout = record {
  kept = no_events layout;
  pointed = record { rows = tt; entries = tt };
  ready = none-ready;
  begun = none-begun;
  written = none-written;
}

module _ (layout : Layout) (now : Office) (are : AreKept layout now) where
  -- an event by which no run goes back
  on-kept : (event : Event) (deck : Option Job) → goes_back event ≡ false → continues event ≡ false → IsNext layout now (event, deck) → AreKept layout (office_after (event, deck) now)
  on-kept event deck ahead on next = record {
    kept = kept-next layout now event deck ahead are.kept next;
    pointed = pointed-next layout now event deck ahead are.kept.events are.pointed next;
    ready = ready-next layout now are event deck on next;
    begun = next-begun layout now event deck on are.kept are.pointed are.ready are.begun next;
    written = next-written layout now event deck on are.kept are.pointed are.ready are.written next;
  }

  -- one more event
  pub next-kept : (event : Event) (deck : Option Job) → IsNext layout now (event, deck) → AreKept layout (office_after (event, deck) now)
  next-kept (Restarted job initiator code false) deck next = record {
    kept = start-keeps layout now job initiator code deck are.kept are.pointed (steps-restorable now are.ready) next.may next.carried;
    pointed = start-pointed layout now job initiator code deck are.kept are.pointed (steps-restorable now are.ready) next.may next.carried;
    ready = ready-next layout now are (Restarted job initiator code false) deck refl next;
    begun = next-begun layout now (Restarted job initiator code false) deck refl are.kept are.pointed are.ready are.begun next;
    written = next-written layout now (Restarted job initiator code false) deck refl are.kept are.pointed are.ready are.written next;
  }
  next-kept (Restarted job initiator code true) deck next = record {
    kept = entry-keeps layout now job initiator code deck are.kept are.pointed (entries-restorable now are.ready) next.may next.carried;
    pointed = entry-pointed layout now job initiator code deck are.kept are.pointed (entries-restorable now are.ready) next.may next.carried;
    ready = ready-next layout now are (Restarted job initiator code true) deck refl next;
    begun = next-begun layout now (Restarted job initiator code true) deck refl are.kept are.pointed are.ready are.begun next;
    written = next-written layout now (Restarted job initiator code true) deck refl are.kept are.pointed are.ready are.written next;
  }
  next-kept (Selected job initiator zero step id) deck next = on-kept (Selected job initiator zero step id) deck refl refl next
  next-kept (Selected job initiator (suc before) step id) deck next = continued-kept layout now are job initiator before step id deck next
  next-kept event deck next = on-kept event deck refl refl next

kept_from : (layout : Layout) (events : List Decked) (now : Office) → AreSoundFrom layout now events → AreKept layout now → AreKept layout (office_from events now)
kept_from layout [] now are kept = kept
kept_from layout (event ∷ rest) now are kept = kept_from layout rest (office_after event now) are.1 (next-kept layout now kept event.0 event.1 (record { may = are.0.may; carried = are.0.carried }))

-- at every prefix
pub prefix-kept : (layout : Layout) (front more : List Decked) → AreSound layout (front ++ more) → AreKept layout (office front)
prefix-kept layout front more are = kept_from layout front no_office (sound-front layout front more are) (none-kept layout)

pub prefix-sound : (layout : Layout) (front more : List Decked) → AreSound layout (front ++ more) → IsSoundOffice layout (office front)
prefix-sound layout front more are = sound layout (office front) (prefix-kept layout front more are).kept
