-- Sound events of decks leave what a desk of its runs has.
use Rattle.std.proofs.Common.{suc, List, [], ◌∷◌, refl, Option}
use Rattle.ckr_events.specs.declared.event.Event.{Event}
use Rattle.ckr_events.specs.declared.event.Event.TheVariants.{Restarted, Selected, Submitted}
use Rattle.ckr_jcl.specs.declared.deck.Job.{Job}
use Rattle.ckr_volumes.specs.declared.layout.Layout.{Layout}
use Rattle.ckr_points.specs.Events.{AreSound, AreSoundFrom, IsNext}
use Rattle.ckr_points.specs.Office.{Office, no_office, office, office_after, office_from}
use Rattle.ckr_points.specs.Restart.{Decked}
use Rattle.ckr_points_invariant.specs.Invariant.{IsKept}
use Rattle.ckr_points_invariant.proofs.KeptEvents.{next-kept, none-kept}
use Rattle.ckr_desk_turn.specs.CheckSets.{HaveCheckRecords}
use Rattle.ckr_desk_turn.specs.Desk.{opened}
use Rattle.ckr_desk_turn.specs.Invariant.{HasRuns, IsDesk}
use Rattle.ckr_desk_turn.specs.DeckEvents.{AreDeckEvents, IsDeckEvent}
use Rattle.ckr_desk_turn.proofs.CheckSets.Events.{have-next}
use Rattle.ckr_desk_turn.proofs.Opening.{opened-is}
use Rattle.ckr_desk_turn.proofs.Runs.Continuations.{continued-runs}
use Rattle.ckr_desk_turn.proofs.Runs.Ends.{coded-runs, refused-runs, through-runs}
use Rattle.ckr_desk_turn.proofs.Runs.Events.{checkpointed-runs, held-runs, released-runs, rewritten-runs, started-runs, submitted-runs, chosen-runs, gone-runs, step_done-runs, withdrawn-runs}
use Rattle.ckr_desk_turn.proofs.Runs.Restarts.{restarted-runs}
use Rattle.ckr_desk_turn.proofs.Runs.Rows.{HasRows, runs-of}
use Rattle.ckr_points_invariant.specs.KeptEvents.{AreKept}
use Rattle.ckr_points_invariant.proofs.EventCases.{RunCases, by-run-cases}

module _ (layout : Layout) (now : Office) (are : AreKept layout now) (has : HasRows now) where
  runs-cases : RunCases layout now are.kept.events HasRows
  runs-cases = record {
    gone = λ job row state e queued over gone. gone-runs layout now are.kept.events has job row state e queued over;
    selected = λ row initiator row_at queued plain free. chosen-runs layout now are.kept.events has row initiator row_at queued plain free;
    started = λ job step items row leg owned starts apart. started-runs layout now are.kept.events has job step items row leg owned starts;
    rewritten = λ job taken writes place lengths image row leg owned its apart. rewritten-runs layout now are.kept.events has job writes lengths row owned its.at.running.holder.row_at its.at.running.found;
    checkpointed = λ job taken writes place bytes id lengths row leg owned its apart.
        checkpointed-runs layout now are.kept.events has job taken writes (record { id = id; run = job; place = place; bytes = bytes }) lengths row owned its.committing.at.running.holder.row_at its.committing.at.running.found;
    withdrawn = λ job row leg holder within. withdrawn-runs layout now are.kept.events has job row holder.row_at;
    step_done = λ job rc writes lengths row leg owned its apart. step_done-runs layout now are.kept.events has job rc writes lengths row owned its.committing.at.running.holder.row_at its.on;
    held = λ job writes code lengths row leg owned its apart. held-runs layout now are.kept.events has job writes code lengths row owned its.at.running.holder.row_at its.at.running.found;
    released = λ job row leg its. released-runs layout now are.kept.events has job row its.holder.row_at its.is_held;
    through = λ job row leg its apart. through-runs layout now are.kept.events has job row leg its.holder;
    coded = λ job rule writes code lengths row leg owned its apart. coded-runs layout now are.kept.events has job rule writes code lengths row leg owned its.at.running.holder its.at.running.found;
    refused = λ job dd cause first second row leg owned its apart. refused-runs layout now are.kept.events has job dd cause first second row leg its.holder;
  }

  pub runs-next : (event : Event) (deck : Option Job) → IsDeckEvent event deck → IsNext layout now (event, deck) → HasRows (office_after (event, deck) now)
  runs-next (Submitted job cards) deck is next = submitted-runs layout now are.kept.events has job cards deck next.may is
  runs-next (Selected job initiator (suc before) step id) deck is next = continued-runs layout now are has job initiator before step id deck next
  runs-next (Restarted job initiator code checkpoint) deck is next = restarted-runs layout now are has checkpoint job initiator code deck next
  runs-next event deck is next = by-run-cases HasRows layout now are.kept.events runs-cases event deck tt refl next

-- what the events have brought about, from some office on
record AreLeft (layout : Layout) (office : Office) : Type 0 where
  pub are : AreKept layout office
  pub has : HasRows office
  pub checks : HaveCheckRecords office.tables.sets

left-from : (layout : Layout) (events : List Decked) (now : Office) → AreSoundFrom layout now events → AreDeckEvents events → AreLeft layout now → AreLeft layout (office_from events now)
left-from layout [] now are run left = left
left-from layout (event ∷ rest) now are run left =
    let next : IsNext layout now (event.0, event.1) = record { may = are.0.may; carried = are.0.carried } in
    left-from layout rest (office_after event now) are.1 run.1
    (record {
      are = next-kept layout now left.are event.0 event.1 next;
      has = runs-next layout now left.are left.has event.0 event.1 run.0 next;
      checks = have-next layout now left.are.kept left.has left.checks event.0 event.1 run.0 next;
    })

left-at : (layout : Layout) (events : List Decked) → AreSound layout events → AreDeckEvents events → AreLeft layout (office events)
left-at layout events are run =
    left-from layout events no_office are run
    (record {
      are = none-kept layout;
      has = record { states = refl; admitted = tt; stepped = refl; spaced = tt; spaced_legs = tt };
      checks = tt;
    })

-- ---- what they leave

pub events-kept : (layout : Layout) (events : List Decked) → AreSound layout events → AreDeckEvents events → IsKept layout (office events)
events-kept layout events are run = (left-at layout events are run).are.kept

pub events-run : (layout : Layout) (events : List Decked) → AreSound layout events → AreDeckEvents events → HasRuns (office events)
events-run layout events are run =
    let left : AreLeft layout (office events) = left-at layout events are run in
    runs-of (office events) left.has layout left.are

pub events-checked : (layout : Layout) (events : List Decked) → AreSound layout events → AreDeckEvents events → HaveCheckRecords (office events).tables.sets
events-checked layout events are run = (left-at layout events are run).checks

-- a desk that is opened on them
pub events-opened : (layout : Layout) (events : List Decked) → AreSound layout events → AreDeckEvents events → IsDesk (opened layout (office events))
events-opened layout events are run = opened-is layout (office events) (events-kept layout events are run) (events-run layout events are run)
