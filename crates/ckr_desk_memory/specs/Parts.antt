-- How the parts of the jobs in memory are seen, and what holds of them: the runs are numbered, and the queue is that of the tables.
use Rattle.std.specs.Prelude.{◌≡◌, ◌≤◌, ◌-◌, List, length, map, vec_len, vec_capacity}
use Rattle.std.specs.List.{AllByRecursion}
use Rattle.ckr_jcl.specs.declared.deck.Parm.{Parm}
use Rattle.ckr_programs.specs.Ranges.{IsInRange}
use Rattle.ckr_queue.specs.declared.entry.QueueEntry.{QueueEntry}
use Rattle.ckr_points.specs.Rows.{TablesModel}
use Rattle.ckr_desk_plans.specs.Model.Units.{IsCounted}
use Rattle.ckr_desk_turn.specs.Queue.{AreNumbered, queue_of}
use Rattle.ckr_desk_memory.specs.declared.jobs.Jobs.TheInside.{Inside}
use Rattle.ckr_desk_memory.specs.View.{JobsView, PointView}
pub use Rattle.ckr_desk_plans.specs.StepView.{step_seen}

abbrev pub jobs_seen : Inside → JobsView
jobs_seen a = record {
  tables = a.tables;
  running = map step_seen a.running.items;
  failed = a.failed.items;
  points = a.points.items;
  queue_room = a.queue.room;
  running_room = vec_capacity a.running - vec_len a.running;
  points_room = vec_capacity a.points - vec_len a.points;
}

-- the runs are numbered, with seven digits at most, and the queue is that of the tables
pub record AreQueued (desk : TablesModel) (queue : List QueueEntry) : Type 0 where
  pub numbered : AreNumbered 1 desk.runs
  pub few : length desk.runs ≤ 9999999
  pub same : queue ≡ queue_of desk

-- the numbers of a point are in their ranges, with any PARM that is in its own
abbrev pub IsPointCounted : PointView → Type 0
IsPointCounted point = (parm : Parm) → IsInRange parm → IsCounted parm point.state point.writes

pub record IsKept (a : Inside) : Type 0 where
  pub queued : AreQueued a.tables.desk a.queue.entries
  pub counted : AllByRecursion IsPointCounted a.points.items
