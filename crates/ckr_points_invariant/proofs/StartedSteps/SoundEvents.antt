-- Runs keep what they had when they began their steps: where there are no events, and behind one more by which no run continues another one.
use Rattle.std.proofs.Common.{◌≡◌, ℕ, zero, suc, true, false, refl, sym, ◌∙◌, Option, None}
use Rattle.std.proofs.lemmas.Bool.{false≢true}
use Rattle.ckr_base.proofs.Options.{some-not-none}
use Rattle.ckr_events.specs.declared.event.Event.{Event}
use Rattle.ckr_events.specs.declared.event.Event.TheVariants.{Restarted, Selected}
use Rattle.ckr_jcl.specs.declared.deck.Job.{Job}
use Rattle.ckr_volumes.specs.declared.layout.Layout.{Layout}
use Rattle.ckr_points.specs.Events.{IsNext}
use Rattle.ckr_points.specs.Office.{Office, no_office, office_after}
use Rattle.ckr_points.specs.Rows.{run_of}
use Rattle.ckr_points_invariant.specs.Invariant.{IsKept}
use Rattle.ckr_points_invariant.specs.Points.{ArePointed}
use Rattle.ckr_points_invariant.specs.Readiness.{AreReady}
use Rattle.ckr_points_invariant.specs.StartedSteps.{AreBegunSteps}
use Rattle.ckr_points_invariant.specs.EarlierRuns.{continues}
use Rattle.ckr_points_invariant.proofs.StartedSteps.RunEvents.{begun-coded, begun-released, begun-abnormal, begun-comes, begun-through, begun-withdrawn}
use Rattle.ckr_points_invariant.proofs.StartedSteps.StepEvents.{begun-checkpointed, begun-entry, begun-held, begun-rewritten, begun-start, begun-started, begun-step_done}
use Rattle.ckr_points_invariant.proofs.EventCases.{EventCases, by-cases}
use Rattle.ckr_points_invariant.proofs.StartedSteps.Rows.{begun-chosen, begun-gone}
use Rattle.ckr_points.specs.Restart.{place_of}

pub none-begun : AreBegunSteps no_office
none-begun = record {
  led = λ number row e selected. absurd (some-not-none row (sym e ∙ no_row number));
  unled = λ number row e none. absurd (some-not-none row (sym e ∙ no_row number));
  runs = λ number row leg e led. absurd (some-not-none row (sym e ∙ no_row number));
}
  where
    no_row : (number : ℕ) → run_of no_office.tables number ≡ None
    no_row zero = refl
    no_row (suc before) = refl

-- one more event
module _ (layout : Layout) (now : Office) (kept : IsKept layout now) (begun : AreBegunSteps now) where
  begun-cases : EventCases layout now kept.events AreBegunSteps
  begun-cases = record {
    comes = λ deck orderly. begun-comes layout now kept.events begun deck;
    runs = record {
      gone = λ job row state e queued over waits. begun-gone layout now kept.events job row state begun e queued;
      selected = λ row initiator row_at queued plain free. begun-chosen layout now kept.events row initiator row_at queued plain free kept.decks begun;
      started = λ job step items row leg owned starts apart. begun-started layout now kept.events begun job step items row leg owned starts;
      rewritten = λ job taken writes place lengths image row leg owned its apart. begun-rewritten layout now kept.events begun job writes lengths row leg owned its.at.running.holder;
      checkpointed = λ job taken writes place bytes id lengths row leg owned its apart.
          begun-checkpointed layout now kept.events begun job taken writes lengths (record { id = id; run = job; place = place; bytes = bytes }) row leg owned its.committing.at.running.holder;
      withdrawn = λ job row leg holder within. begun-withdrawn layout now kept.events begun job row leg holder;
      step_done = λ job rc writes lengths row leg owned its apart. begun-step_done layout now kept.events begun job rc writes lengths row leg owned its.committing.at.running.holder;
      held = λ job writes code lengths row leg owned its apart. begun-held layout now kept.events begun job writes code lengths row leg owned its.at.running.holder;
      released = λ job row leg its. begun-released layout now kept.events begun job row leg its.holder;
      through = λ job row leg its apart. begun-through layout now kept.events begun job row leg _ its.holder;
      coded = λ job rule writes code lengths row leg owned its apart. begun-coded layout now kept.events begun job rule writes code lengths row leg owned _ its;
      refused = λ job dd cause first second row leg owned its apart. begun-abnormal layout now kept.events begun job row leg (place_of row) _ its.holder;
    };
  }

pub next-begun : (layout : Layout) (now : Office) (event : Event) (deck : Option Job) → continues event ≡ false → IsKept layout now → ArePointed now → AreReady now → AreBegunSteps now → IsNext layout now (event, deck) → AreBegunSteps (office_after (event, deck) now)
next-begun layout now (Selected job initiator (suc before) step id) deck on kept pointed ready begun next = absurd (false≢true (sym on))
next-begun layout now (Restarted job initiator code false) deck on kept pointed ready begun next = begun-start layout now kept.events begun pointed ready job initiator code deck next.may next.carried
next-begun layout now (Restarted job initiator code true) deck on kept pointed ready begun next = begun-entry layout now kept.events begun pointed ready job initiator code deck next.may next.carried
next-begun layout now event deck on kept pointed ready begun next = by-cases AreBegunSteps layout now kept.events (begun-cases layout now kept begun) event deck refl next
