-- Data sets keep their entries as they were written: where there are no events, and behind one more by which no run continues another one.
use Rattle.std.proofs.Common.{◌≡◌, suc, true, false, sym, Option, refl}
use Rattle.std.proofs.lemmas.Bool.{false≢true}
use Rattle.ckr_base.proofs.Options.{some-not-none}
use Rattle.ckr_events.specs.declared.event.Event.{Event}
use Rattle.ckr_events.specs.declared.event.Event.TheVariants.{Restarted, Selected}
use Rattle.ckr_jcl.specs.declared.deck.Job.{Job}
use Rattle.ckr_volumes.specs.declared.layout.Layout.{Layout}
use Rattle.ckr_points.specs.Events.{IsNext}
use Rattle.ckr_points.specs.Office.{Office, no_office, office_after}
use Rattle.ckr_points_invariant.specs.Invariant.{IsKept, IsAgreed}
use Rattle.ckr_points_invariant.specs.Points.{ArePointed}
use Rattle.ckr_points_invariant.specs.Readiness.{AreReady}
use Rattle.ckr_points_invariant.specs.WrittenEntries.{AreWrittenEntries}
use Rattle.ckr_points_invariant.specs.EarlierRuns.{continues}
use Rattle.ckr_points_invariant.proofs.WrittenEntries.Restarts.{written-entry, written-start}
use Rattle.ckr_points_invariant.proofs.WrittenEntries.RunEvents.{written-coded, written-released, written-abnormal, written-chosen, written-comes, written-gone, written-through, written-withdrawn}
use Rattle.ckr_points_invariant.proofs.WrittenEntries.StepEvents.{written-checkpointed, written-held, written-rewritten, written-started, written-step_done}
use Rattle.ckr_points_invariant.proofs.EventCases.{EventCases, by-cases}
use Rattle.ckr_points.specs.Restart.{place_of}

pub none-written : AreWrittenEntries no_office
none-written = record {
  sets = λ set table there. absurd (some-not-none table (sym there));
  grown = λ number row leg owned point holder. absurd (some-not-none leg (sym holder.leg_at));
}

-- one more event
module _ (layout : Layout) (now : Office) (kept : IsAgreed layout now) (pointed : ArePointed now) (ready : AreReady now) (written : AreWrittenEntries now) where
  written-cases : EventCases layout now kept AreWrittenEntries
  written-cases = record {
    comes = λ deck orderly. written-comes layout now kept pointed ready written deck;
    runs = record {
      gone = λ job row state e queued over gone. written-gone layout now kept pointed ready written job row state e queued;
      selected = λ row initiator row_at queued plain free. written-chosen layout now kept pointed ready written row initiator row_at queued plain free;
      started = λ job step items row leg owned starts apart. written-started layout now kept pointed ready written job step items row leg owned starts apart;
      rewritten = λ job taken writes place lengths image row leg owned its apart. written-rewritten layout now kept pointed ready written job taken writes place lengths image row leg owned its apart;
      checkpointed = λ job taken writes place bytes id lengths row leg owned its apart. written-checkpointed layout now kept pointed ready written job taken writes place bytes id lengths row leg owned its apart;
      withdrawn = λ job row leg holder within. written-withdrawn layout now kept pointed ready written job row leg holder;
      step_done = λ job rc writes lengths row leg owned its apart. written-step_done layout now kept pointed ready written job rc writes lengths row leg owned its.committing.at.running.holder apart;
      held = λ job writes code lengths row leg owned its apart. written-held layout now kept pointed ready written job writes code lengths row leg owned its apart;
      released = λ job row leg its. written-released layout now kept pointed ready written job row leg its.holder;
      through = λ job row leg its apart. written-through layout now kept pointed ready written job row leg _ its.holder apart;
      coded = λ job rule writes code lengths row leg owned its apart. written-coded layout now kept pointed ready written job rule writes code lengths row leg owned _ its apart;
      refused = λ job dd cause first second row leg owned its apart. written-abnormal layout now kept pointed ready written job row leg (place_of row) _ its.holder apart;
    };
  }

pub next-written : (layout : Layout) (now : Office) (event : Event) (deck : Option Job) → continues event ≡ false → IsKept layout now → ArePointed now → AreReady now → AreWrittenEntries now → IsNext layout now (event, deck) → AreWrittenEntries (office_after (event, deck) now)
next-written layout now (Selected job initiator (suc before) step id) deck on kept pointed ready written next = absurd (false≢true (sym on))
next-written layout now (Restarted job initiator code false) deck on kept pointed ready written next = written-start layout now kept.events pointed ready written job initiator code deck next.may next.carried
next-written layout now (Restarted job initiator code true) deck on kept pointed ready written next = written-entry layout now kept.events pointed ready written job initiator code deck next.may next.carried
next-written layout now event deck on kept pointed ready written next = by-cases AreWrittenEntries layout now kept.events (written-cases layout now kept.events pointed ready written) event deck refl next
