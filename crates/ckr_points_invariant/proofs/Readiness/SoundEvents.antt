-- All runs are ready where there are no events, and behind one more by which no run continues another one.
use Rattle.std.proofs.Common.{◌≡◌, ℕ, zero, suc, true, false, sym, Option, Some, None, refl}
use Rattle.std.proofs.lemmas.Bool.{false≢true}
use Rattle.ckr_base.proofs.Options.{some-not-none}
use Rattle.ckr_events.specs.declared.event.Event.{Event}
use Rattle.ckr_events.specs.declared.event.Event.TheVariants.{Restarted, Selected}
use Rattle.ckr_jcl.specs.declared.deck.Job.{Job}
use Rattle.ckr_volumes.specs.declared.layout.Layout.{Layout}
use Rattle.ckr_points.specs.Events.{IsNext}
use Rattle.ckr_points.specs.Office.{Office, no_office, office_after}
use Rattle.ckr_points.specs.Rows.{RunRow, run_of}
use Rattle.ckr_points_invariant.specs.KeptEvents.{AreKept}
use Rattle.ckr_points_invariant.specs.Readiness.{AreReady}
use Rattle.ckr_points_invariant.specs.EarlierRuns.{continues}
use Rattle.ckr_points_invariant.proofs.Readiness.RunEvents.{ready-coded, ready-released, ready-abnormal, ready-chosen, ready-comes, ready-gone, ready-through, ready-withdrawn}
use Rattle.ckr_points_invariant.proofs.Readiness.StepEvents.{ready-checkpointed, ready-entry, ready-held, ready-rewritten, ready-start, ready-started, ready-step_done}
use Rattle.ckr_points_invariant.proofs.EventCases.{EventCases, by-cases}
use Rattle.ckr_points.specs.Restart.{place_of}

pub none-ready : AreReady no_office
none-ready = record {
  waits = λ number row e queued. none number row e;
  runs = λ number row leg there. absurd (some-not-none leg (sym there.leg_at));
}
  where
    none : (number : ℕ) (row : RunRow) → run_of no_office.tables number ≡ Some row → row.in_effect ≡ None
    none zero row e = absurd (some-not-none row (sym e))
    none (suc before) row e = absurd (some-not-none row (sym e))

module _ (layout : Layout) (now : Office) (are : AreKept layout now) where
  ready-cases : EventCases layout now are.kept.events AreReady
  ready-cases = record {
    comes = λ deck orderly. ready-comes layout now are.kept.events are.pointed are.ready deck;
    runs = record {
      gone = λ job row state e queued over gone. ready-gone layout now are.kept.events are.pointed are.ready job row state e over gone;
      selected = λ row initiator row_at queued plain free. ready-chosen layout now are.kept.events are.pointed are.ready row initiator row_at queued plain free;
      started = λ job step items row leg owned starts apart. ready-started layout now are.kept.events are.pointed are.ready job step items row leg owned starts apart;
      rewritten = λ job taken writes place lengths image row leg owned its apart. ready-rewritten layout now are.kept.events are.pointed are.ready job taken writes place lengths image row leg owned its apart;
      checkpointed = λ job taken writes place bytes id lengths row leg owned its apart. ready-checkpointed layout now are.kept.events are.pointed are.ready job taken writes place bytes id lengths row leg owned its apart;
      withdrawn = λ job row leg holder within. ready-withdrawn layout now are.kept.events are.pointed are.ready job row leg holder;
      step_done = λ job rc writes lengths row leg owned its apart. ready-step_done layout now are.kept.events are.pointed are.ready job rc writes lengths row owned its.committing.at.running.holder.row_at apart;
      held = λ job writes code lengths row leg owned its apart. ready-held layout now are.kept.events are.pointed are.ready job writes code lengths row leg owned its apart;
      released = λ job row leg its. ready-released layout now are.kept.events are.pointed are.ready job row leg its.holder;
      through = λ job row leg its apart. ready-through layout now are.kept.events are.pointed are.ready job row _ its.holder.row_at apart;
      coded = λ job rule writes code lengths row leg owned its apart. ready-coded layout now are.kept.events are.pointed are.ready job rule writes code lengths row owned _ its.at.running.holder.row_at its.at.running.found apart;
      refused = λ job dd cause first second row leg owned its apart. ready-abnormal layout now are.kept.events are.pointed are.ready job row (place_of row) _ its.holder.row_at apart;
    };
  }

  pub ready-next : (event : Event) (deck : Option Job) → continues event ≡ false → IsNext layout now (event, deck) → AreReady (office_after (event, deck) now)
  ready-next (Selected job initiator (suc before) step id) deck on next = absurd (false≢true (sym on))
  ready-next (Restarted job initiator code false) deck on next = ready-start layout now are.kept.events are.pointed are.ready job initiator code deck next.may next.carried
  ready-next (Restarted job initiator code true) deck on next = ready-entry layout now are.kept.events are.pointed are.ready job initiator code deck next.may next.carried
  ready-next event deck on next = by-cases AreReady layout now are.kept.events ready-cases event deck refl next
