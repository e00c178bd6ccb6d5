-- An event by which no run goes back keeps the events.
use Rattle.std.proofs.Common.{◌≡◌, false, Option, None, true}
use Rattle.ckr_events.specs.declared.event.Event.{Event}
use Rattle.ckr_events.specs.declared.event.Event.TheVariants.{Submitted}
use Rattle.ckr_jcl.specs.declared.deck.Job.{Job}
use Rattle.ckr_volumes.specs.declared.layout.Layout.{Layout}
use Rattle.ckr_points.specs.Events.{IsNext}
use Rattle.ckr_points.specs.Office.{Office, office_after}
use Rattle.ckr_points_invariant.specs.Invariant.{IsKept, AreOrderly, AreStamped, IsAgreed}
use Rattle.ckr_points_invariant.specs.Continuations.{goes_back}
use Rattle.ckr_points_invariant.proofs.RowChanges.{checked_agreed, checked_stamps, kept-released, kept-withdrawn}
use Rattle.ckr_points_invariant.proofs.EventCases.{EventCases, by-cases}
use Rattle.ckr_points.specs.declared.run.RunState.TheVariants.{Released as ReleasedRun}
use Rattle.ckr_points.specs.Payload.{carries}
use Rattle.ckr_points_invariant.proofs.RunEnd.Event.{kept-allocation, kept-coded, kept-complete, kept-step_end}
use Rattle.ckr_points_invariant.proofs.Select.Invariant.{kept-chosen}
use Rattle.ckr_points_invariant.proofs.WaitingRuns.{kept-comes, kept-gone}
use Rattle.ckr_points_invariant.proofs.Start.Event.{kept-held}
use Rattle.ckr_points_invariant.proofs.Rewrite.Event.{kept-rewritten}
use Rattle.ckr_points_invariant.proofs.Start.Invariant.{kept-started}
use Rattle.ckr_points_invariant.proofs.Decks.Events.{orderly-next}
use Rattle.ckr_points_invariant.proofs.Stamps.Events.{stamped-allocation, stamped-coded, stamped-comes, stamped-held, stamped-rewritten, stamped-row, stamped-step_done, stamped-through}
use Rattle.ckr_points_invariant.proofs.Stamps.Starts.{stamped-chosen, stamped-starts}

module _ (layout : Layout) (now : Office) (kept : IsKept layout now) where
  agreed-cases : EventCases layout now kept.events (IsAgreed layout)
  agreed-cases = record {
    comes = λ deck orderly. kept-comes layout now deck kept.events orderly;
    runs = record {
      gone = λ job row state e queued over gone. kept-gone layout now job row state kept.events e queued over gone;
      selected = λ row initiator row_at queued plain free. kept-chosen layout now row initiator kept.events row_at queued plain free kept.decks;
      started = λ job step items row leg owned starts apart. kept-started layout now job row leg owned step items kept.events starts.holder starts.stands starts.found starts.holds starts.runs starts.flawless starts.clear;
      rewritten = λ job taken writes place lengths image row leg owned its apart. kept-rewritten layout now job taken writes place lengths image row leg owned kept.events its;
      checkpointed = λ job taken writes place bytes id lengths row leg owned its apart.
          checked_agreed layout now job row leg owned taken writes lengths (record { id = id; run = job; place = place; bytes = bytes }) kept its.committing.at.running its.committing.commit its.committing.at.are;
      withdrawn = λ job row leg holder within. kept-withdrawn layout now job row leg kept.events holder within;
      step_done = λ job rc writes lengths row leg owned its apart. kept-step_end layout now job rc writes lengths row leg owned kept.events its;
      held = λ job writes code lengths row leg owned its apart. kept-held layout now job writes code lengths row leg owned kept.events its;
      released = λ job row leg its. kept-released layout now job row leg kept.events its.holder its.within;
      through = λ job row leg its apart. kept-complete layout now job row leg kept.events its;
      coded = λ job rule writes code lengths row leg owned its apart. kept-coded layout now job rule writes code lengths row leg owned kept.events its;
      refused = λ job dd cause first second row leg owned its apart. kept-allocation layout now job dd cause first second row leg owned kept.events its;
    };
  }

  stamped-cases : EventCases layout now kept.events AreStamped
  stamped-cases = record {
    comes = λ deck orderly. stamped-comes now deck kept.stamps;
    runs = record {
      gone = λ job row state e queued over gone. stamped-row now job row (record row { state = state }) kept.stamps e (λ mine. mine);
      selected = λ row initiator row_at queued plain free. stamped-chosen layout now row initiator kept row_at queued plain free;
      started = λ job step items row leg owned starts apart. stamped-starts layout now job row leg owned step items kept starts;
      rewritten = λ job taken writes place lengths image row leg owned its apart. stamped-rewritten now job writes lengths row owned kept.stamps its.at.running.holder.row_at;
      checkpointed = λ job taken writes place bytes id lengths row leg owned its apart.
          checked_stamps layout now job row leg owned taken writes lengths (record { id = id; run = job; place = place; bytes = bytes }) kept its.committing.at.running its.committing.commit its.committing.at.are;
      withdrawn = λ job row leg holder within. stamped-row now job row (record row { in_effect = None }) kept.stamps holder.row_at (λ mine. mine);
      step_done = λ job rc writes lengths row leg owned its apart. stamped-step_done now job rc writes lengths row owned kept.stamps its.committing.at.running.holder.row_at;
      held = λ job writes code lengths row leg owned its apart. stamped-held now job writes code lengths row owned kept.stamps its.at.running.holder.row_at;
      released = λ job row leg its. stamped-row now job row (record row { state = ReleasedRun }) kept.stamps its.holder.row_at (λ mine. mine);
      through = λ job row leg its apart. stamped-through layout now job row leg kept its;
      coded = λ job rule writes code lengths row leg owned its apart. stamped-coded layout now job rule writes code lengths row leg owned kept its;
      refused = λ job dd cause first second row leg owned its apart. stamped-allocation layout now job dd cause first second row leg owned kept its;
    };
  }

-- the decks stay orderly: one that comes is
orderly-behind : (layout : Layout) (now : Office) (event : Event) (deck : Option Job) → carries layout now event deck ≡ true → AreOrderly now.tables → AreOrderly (office_after (event, deck) now).tables
orderly-behind layout now (Submitted job cards) deck carried orderly = orderly-next now.tables (Submitted job cards) deck carried orderly
orderly-behind layout now event deck carried orderly = orderly-next now.tables event deck tt orderly

module _ (layout : Layout) (now : Office) where
  -- one more event keeps them
  pub kept-next : (event : Event) (deck : Option Job) → goes_back event ≡ false → IsKept layout now → IsNext layout now (event, deck) → IsKept layout (office_after (event, deck) now)
  kept-next event deck on kept next = record {
    events = by-cases (IsAgreed layout) layout now kept.events (agreed-cases layout now kept) event deck on next;
    stamps = by-cases AreStamped layout now kept.events (stamped-cases layout now kept) event deck on next;
    decks = orderly-behind layout now event deck next.carried kept.decks;
  }
