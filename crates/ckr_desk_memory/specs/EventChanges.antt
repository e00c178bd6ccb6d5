-- What becomes of the jobs in memory by an event.
use Rattle.std.specs.Prelude.{◌≡◌, ◌==◌, ℕ, Bool, not, false, if◌then◌else◌, IsTrue, List, [], ◌∷◌, filter, find, map, nat_le, nat_lt, option_and_then, Option, None, Some}
use Rattle.std.specs.Option.{option_map_or}
use Rattle.ckr_base.specs.declared.code.Code.{Code}
use Rattle.ckr_uses.specs.Uses.{uses_of}
use Rattle.ckr_library.specs.declared.uses.Use.{Use}
use Rattle.ckr_events.specs.declared.event.Event.{Event}
use Rattle.ckr_events.specs.declared.event.Event.TheVariants.{Submitted, Selected, Denied, Checkpointed, Cancelled, StepEnded, Restarted, Held, Released, Ended, Purged}
use Rattle.ckr_jcl.specs.declared.deck.Job.{Job}
use Rattle.ckr_library.specs.Catalog.{Holding, with_length}
use Rattle.ckr_library.specs.NameMaps.{Name, Named, entry_at, with_changed}
use Rattle.ckr_points.specs.Follows.{is_in_state, of_run, own_step}
use Rattle.ckr_points.specs.Rows.{RunRow, TablesModel, run_of}
use Rattle.ckr_points.specs.declared.run.RunState.TheVariants.{On}
use Rattle.ckr_points_tables.specs.Checkpoint.{checkpoint_name}
use Rattle.ckr_queue.specs.declared.entry.QueueEntry.{QueueEntry}
use Rattle.ckr_queue.specs.declared.entry.QueueState.TheVariants.{Selected as SelectedRun}
use Rattle.ckr_queue.specs.Queue.{has_names, is_held, is_in, is_queued, may_take, state_of, with_state}
use Rattle.ckr_desk_plans.specs.StepTypes.StepRun.{StepRun}
use Rattle.ckr_desk_plans.specs.Model.Units.{entries_of, served_of}
use Rattle.ckr_desk_turn.specs.declared.failed_run.FailedRun.{FailedRun}
use Rattle.ckr_desk_turn.specs.Desk.{is_running}
use Rattle.ckr_desk_turn.specs.Queue.{queue_behind}
use Rattle.ckr_desk_memory.specs.View.{PointView, RunningStepView}

-- ---- the queue

-- what an event asks of the queue
abbrev pub MayQueue : Event → List QueueEntry → Type 0
MayQueue (Submitted job cards) queue = state_of job queue ≡ None
MayQueue (Selected job initiator earlier step id) queue = IsTrue (may_take job queue)
MayQueue (Denied job rule name) queue = IsTrue (is_in is_queued job queue)
MayQueue (Restarted job initiator code checkpoint) queue = IsTrue (is_in has_names job queue)
MayQueue (Held job code writes lengths) queue = IsTrue (is_in has_names job queue)
MayQueue (Released job) queue = IsTrue (is_in is_held job queue)
MayQueue (Ended job ending) queue = IsTrue (is_in has_names job queue)
MayQueue (Purged job) queue = IsTrue (is_in is_queued job queue)
MayQueue _ queue = Unit {0}

abbrev pub AreUsesOf : ℕ → Option Job → Option (List Use) → Type 0
AreUsesOf job None uses = uses ≡ None
AreUsesOf job (Some deck) uses = uses ≡ Some (uses_of job deck)

-- the uses are those of a deck that is submitted
abbrev pub HasUses : Event → Option Job → Option (List Use) → Type 0
HasUses (Submitted job cards) deck uses = AreUsesOf job deck uses
HasUses _ deck uses = Unit {0}

-- the queue behind an event, by the tables behind it: a run that is restarted is selected where it is on an initiator
abbrev pub queue_after : TablesModel → Event → Option Job → List QueueEntry → List QueueEntry
queue_after tables (Restarted job initiator code checkpoint) deck queue = if of_run tables job (is_in_state On) then with_state job SelectedRun queue else queue
queue_after tables event deck queue = queue_behind event deck queue

-- ---- the running steps

-- those of other runs
abbrev pub without_run : ℕ → List RunningStepView → List RunningStepView
without_run run running = filter (λ (on : RunningStepView). not (on.run == run)) running

abbrev pub is_of_run : ℕ → RunningStepView → Bool
is_of_run run on = on.run == run

-- those without the first one of a run
abbrev pub without_first : ℕ → List RunningStepView → List RunningStepView
without_first run [] = []
without_first run (on ∷ rest) = if is_of_run run on then rest else on ∷ without_first run rest

-- a running step with what is due done, and no entry written
abbrev pub served_step : RunningStepView → RunningStepView
served_step on = record on { step = record on.step { state = served_of on.step.parm false on.step.state } }

-- so is the first one of a run, and it stands before the others
abbrev pub served_in : ℕ → List RunningStepView → List RunningStepView
served_in run running = option_map_or (λ on. served_step on ∷ without_first run running) (find (is_of_run run) running) running

-- the run of a step waits with a code
abbrev pub coded_on : ℕ → Code → RunningStepView → RunningStepView
coded_on run code on = if is_of_run run on then record on { code = Some code } else on

abbrev pub with_code : ℕ → Code → List RunningStepView → List RunningStepView
with_code run code running = map (coded_on run code) running

-- ---- a running step behind the entry of its checkpoint

-- the name of the data set for checkpoints of the step that a run is in
abbrev pub check_name : RunRow → Option Name
check_name row = option_and_then (checkpoint_name row.job.root) (own_step row)

abbrev pub check_name_in : TablesModel → ℕ → Option Name
check_name_in tables run = option_and_then check_name (run_of tables run)

-- whether there is a data set of a name with space for so many records
abbrev pub has_space : ℕ → Name → Named Holding → Bool
has_space most name sets = option_map_or (λ (held : Holding). nat_le most held.set.space) (entry_at sets name) false

-- the data sets of a step, with that for checkpoints so long, if it has the space
abbrev pub with_entry_end : Option Name → ℕ → Named Holding → Named Holding
with_entry_end None most sets = sets
with_entry_end (Some name) most sets = if has_space most name sets then with_changed name (with_length most) sets else sets

-- its checkpoint is done, and the entry is counted, up to a million of them
abbrev pub entered_run : StepRun → StepRun
entered_run step = record step { state = served_of step.parm (nat_lt (entries_of step.state) 1000000) step.state }

-- a running step behind its entry, with which its data set for checkpoints is so long
pub record IsEntered (check : Option Name) (most : ℕ) (old new : RunningStepView) : Type 0 where
  pub run : new.run ≡ old.run
  pub step : new.step ≡ entered_run old.step
  pub sets : new.sets.sets ≡ with_entry_end check most old.sets.sets
  pub code : new.code ≡ old.code

-- so is the first one of a run, if there is one, and it stands before the others
abbrev pub FirstEnters : Option RunningStepView → ℕ → Option Name → ℕ → List RunningStepView → List RunningStepView → Type 0
FirstEnters None run check most old new = new ≡ old
FirstEnters (Some on) run check most old new = (behind : RunningStepView) × (new ≡ behind ∷ without_first run old) × IsEntered check most on behind

abbrev pub HasEntered : ℕ → Option Name → ℕ → List RunningStepView → List RunningStepView → Type 0
HasEntered run check most old new = FirstEnters (find (is_of_run run) old) run check most old new

-- ---- the points of checkpoints in effect

abbrev pub is_point_of : ℕ → PointView → Bool
is_point_of run point = point.run == run

-- those of other runs
abbrev pub without_point : ℕ → List PointView → List PointView
without_point run points = filter (λ (point : PointView). not (point.run == run)) points

-- where a running step stands
abbrev pub point_of : RunningStepView → PointView
point_of on = record { run = on.run; state = on.step.state; writes = on.step.writes }

-- that of the first running step of a run, before those of other runs
abbrev pub with_point : ℕ → List RunningStepView → List PointView → List PointView
with_point run running points = option_map_or (λ on. point_of on ∷ without_point run points) (find (is_of_run run) running) (without_point run points)

-- The points behind an event, by the running steps behind it: a checkpoint is in effect until it is cancelled, its step or its run ends, or the run
-- is restarted at the start of the step.
abbrev pub points_behind : Event → List RunningStepView → List PointView → List PointView
points_behind (Checkpointed job id taken writes lengths place bytes) running points = with_point job running points
points_behind (Cancelled job) running points = without_point job points
points_behind (StepEnded job step rc writes lengths) running points = without_point job points
points_behind (Restarted job initiator code false) running points = without_point job points
points_behind (Ended job ending) running points = without_point job points
points_behind _ running points = points

-- ---- opened

-- the runs that were running when the system failed
abbrev pub failed_in : TablesModel → List FailedRun
failed_in tables = map (λ (row : RunRow). record { run = row.number; asked = false }) (filter is_running tables.runs)
