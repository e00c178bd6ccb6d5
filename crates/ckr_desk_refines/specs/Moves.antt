-- The jobs in memory behind an event, and what the disk keeps meanwhile.
use Rattle.std.specs.Prelude.{◌≡◌, ◌≢◌, ◌≤◌, ◌<◌, ℕ, suc, IsTrue, List, Option, None, Some, slice_set}
use Rattle.ckr_events.specs.declared.event.Event.{Event}
use Rattle.ckr_events.specs.declared.event.Event.TheVariants.{Selected}
use Rattle.ckr_jcl.specs.declared.deck.Job.{Job}
use Rattle.ckr_base.specs.declared.code.Code.{Code}
use Rattle.ckr_desk_memory.specs.EventChanges.{points_behind, with_code}
use Rattle.ckr_desk_memory.specs.RunningSteps.{GoesOn}
use Rattle.ckr_desk_memory.specs.View.{JobsView, PointView}
use Rattle.ckr_library.specs.declared.sets.DataSet.{DataSet}
use Rattle.ckr_points.specs.Restart.{after_event}
use Rattle.ckr_desk_refines.specs.Standing.{OwnStands}
use Rattle.ckr_desk_turn.specs.Desk.{DeskModel, behind, failed_behind, with_asked}
use Rattle.ckr_desk_turn.specs.declared.plan.Plan.{Plan}
use Rattle.ckr_desk_turn.specs.declared.plan.Plan.TheVariants.{Rest, Tell, Work, Pass, Take, Ask, Wait}
use Rattle.ckr_points.specs.declared.reply.Reply.{Reply}
use Rattle.ckr_points.specs.declared.reply.Reply.TheVariants.{AwaitingReply, Idle}
use Rattle.ckr_volumes.specs.declared.layout.Layout.{Layout}
use Rattle.ckr_volumes.specs.Records.{record_at, records_on}
use Rattle.ckr_volumes.specs.Layouts.{StandsIn, lie_apart}

-- the jobs in memory went on by the event; the deck is that of one that is submitted
pub record HaveMoved (event : Event) (deck : Option Job) (old new : JobsView) : Type 0 where
  pub tables : new.tables.desk ≡ after_event event deck old.tables.desk
  pub running : GoesOn event new.tables.desk old.points old.running new.running
  pub failed : new.failed ≡ failed_behind event old.failed
  pub points : new.points ≡ points_behind event new.running old.points

-- the point in memory of a run that goes on at a checkpoint of an earlier one stands for that entry, as the run has it in effect behind the event
abbrev pub KnowsItsEntry : Event → DeskModel → List PointView → Type 0
KnowsItsEntry (Selected job initiator (suc before) step (Some id)) desk points = OwnStands (behind (Selected job initiator (suc before) step (Some id)) None desk).office points job
KnowsItsEntry _ desk points = Unit {0}

-- the operator didn't answer, and a run waits on its initiator with its code
pub record HasWaited (run : ℕ) (code : Code) (old new : JobsView) : Type 0 where
  pub tables : new.tables.desk ≡ old.tables.desk
  pub running : new.running ≡ with_code run code old.running
  pub failed : new.failed ≡ with_asked run old.failed
  pub points : new.points ≡ old.points

-- the records of each data set that stands in the layout are the same
abbrev pub HasSameRecords : Layout → List ℕ → List ℕ → Type 0
HasSameRecords layout before after =
    (set : DataSet) (n : ℕ) → StandsIn layout set → n ≤ set.space → records_on after layout set n ≡ records_on before layout set n

-- a record of a data set is written
pub record IsWritten (layout : Layout) (set : DataSet) (place : ℕ) (bytes : List ℕ) (before after : List ℕ) : Type 0 where
  pub written : (n : ℕ) → n ≤ set.space → records_on after layout set n ≡ slice_set (records_on before layout set n) place bytes
  pub others : (other : DataSet) → StandsIn layout other → IsTrue (lie_apart set other) → (n : ℕ) → n ≤ other.space
      → records_on after layout other n ≡ records_on before layout other n

-- the reply of a plan, and its event, if it has one
abbrev pub reply_in : Plan → Reply
reply_in (Rest reply) = reply
reply_in (Tell reply event) = reply
reply_in (Work job) = Idle
reply_in (Pass job reply) = reply
reply_in (Take job) = Idle
reply_in (Ask inquiry) = Idle
reply_in (Wait job code) = AwaitingReply

abbrev pub event_in : Plan → Option Event
event_in (Tell reply event) = Some event
event_in _ = None

-- An image has what another one has of each data set that lies apart from this one, and of this one each record but the one at a place.
pub record DiffersAt (layout : Layout) (set : DataSet) (place : ℕ) (told image : List ℕ) : Type 0 where
  pub records : (at : ℕ) → at < set.space → at ≢ place → record_at image layout set at ≡ record_at told layout set at
  pub others : (other : DataSet) → StandsIn layout other → IsTrue (lie_apart set other) → (n : ℕ) → n ≤ other.space
      → records_on image layout other n ≡ records_on told layout other n
