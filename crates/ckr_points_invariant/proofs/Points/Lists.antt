-- An event by which no run goes back leaves each point as what its run's job has at that place.
use Rattle.std.proofs.Common.{◌≡◌, false, Option, None}
use Rattle.ckr_events.specs.declared.event.Event.{Event}
use Rattle.ckr_jcl.specs.declared.deck.Job.{Job}
use Rattle.ckr_volumes.specs.declared.layout.Layout.{Layout}
use Rattle.ckr_points.specs.Events.{IsNext}
use Rattle.ckr_points.specs.Office.{Office, office_after}
use Rattle.ckr_points_invariant.specs.Continuations.{goes_back}
use Rattle.ckr_points_invariant.specs.Invariant.{IsAgreed}
use Rattle.ckr_points_invariant.specs.Points.{ArePointed}
use Rattle.ckr_points_invariant.proofs.Points.Events.{pointed-ended, pointed-held, pointed-rewritten, pointed-started, pointed-chosen, pointed-comes, pointed-row, pointed-step_done, pointed-taken}
use Rattle.ckr_events.specs.declared.event.Ending.TheVariants.{Allocation, Coded, Completed}
use Rattle.ckr_points_invariant.proofs.EventCases.{EventCases, by-cases}
use Rattle.ckr_points.specs.declared.run.RunState.TheVariants.{Released as ReleasedRun}

module _ (layout : Layout) (now : Office) (kept : IsAgreed layout now) (pointed : ArePointed now) where
  pointed-cases : EventCases layout now kept ArePointed
  pointed-cases = record {
    comes = λ deck orderly. pointed-comes layout now kept pointed deck;
    runs = record {
      gone = λ job row state e queued over gone. pointed-row layout now kept pointed job row (record row { state = state }) e (λ mine. mine);
      selected = λ row initiator row_at queued plain free. pointed-chosen layout now kept pointed row initiator row_at queued plain free;
      started = λ job step items row leg owned starts apart. pointed-started layout now kept pointed job step items row leg owned starts;
      rewritten = λ job taken writes place lengths image row leg owned its apart. pointed-rewritten layout now kept pointed job writes lengths row owned its.at.running.holder.row_at;
      checkpointed = λ job taken writes place bytes id lengths row leg owned its apart.
          pointed-taken layout now kept pointed job row leg owned taken writes lengths (record { id = id; run = job; place = place; bytes = bytes }) its.committing.at.running.holder its.committing.at.running its.committing.commit its.committing.at.are;
      withdrawn = λ job row leg holder within. pointed-row layout now kept pointed job row (record row { in_effect = None }) holder.row_at (λ mine. mine);
      step_done = λ job rc writes lengths row leg owned its apart. pointed-step_done layout now kept pointed job rc writes lengths row owned its.committing.at.running.holder.row_at;
      held = λ job writes code lengths row leg owned its apart. pointed-held layout now kept pointed job writes code lengths row owned its.at.running.holder.row_at;
      released = λ job row leg its. pointed-row layout now kept pointed job row (record row { state = ReleasedRun }) its.holder.row_at (λ mine. mine);
      through = λ job row leg its apart. pointed-ended layout now kept pointed job Completed row now.library its.holder.row_at;
      coded = λ job rule writes code lengths row leg owned its apart. pointed-ended layout now kept pointed job (Coded code rule writes lengths) row now.library its.at.running.holder.row_at;
      refused = λ job dd cause first second row leg owned its apart. pointed-ended layout now kept pointed job (Allocation dd cause first second) row now.library its.holder.row_at;
    };
  }

module _ (layout : Layout) (now : Office) where
  -- one more event keeps it
  pub pointed-next : (event : Event) (deck : Option Job) → goes_back event ≡ false → IsAgreed layout now → ArePointed now → IsNext layout now (event, deck) → ArePointed (office_after (event, deck) now)
  pointed-next event deck on kept pointed next = by-cases ArePointed layout now kept (pointed-cases layout now kept pointed) event deck on next
