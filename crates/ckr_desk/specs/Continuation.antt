-- A run that goes on at a checkpoint of an earlier one: before it does, the checkpoint's entry is read. The run is denied by D3 where there is none, or its
-- bytes aren't the point that the tables keep, and by D7 where the state isn't of the step's program (this project's profile of IBM GC28-6708).
use Rattle.std.specs.Prelude.{◌≡◌, ◌==◌, ℕ, true, if◌then◌else◌, List, option_and_then, Option, None, Result, Ok, Err}
use Rattle.std.specs.Option.{option_map, option_map_or}
use Rattle.ckr_desk_refines.specs.DiskEntries.Continuation.{EntryThere, IsEntryRule, is_of_program, judged_there}
use Rattle.ckr_desk_refines.specs.DiskEntries.StepState.{StepState}
use Rattle.ckr_desk_refines.specs.Memory.OwnSteps.{KnowsItsPoint}
use Rattle.ckr_desk_refines.specs.Memory.View.{PointView}
use Rattle.ckr_desk_turn.specs.Desk.{DeskModel}
use Rattle.ckr_desk_turn.specs.declared.plan.Plan.{Plan}
use Rattle.ckr_desk_turn.specs.declared.plan.Plan.TheVariants.{Tell}
use Rattle.ckr_points.specs.declared.reply.Reply.TheVariants.{DeniedRestart}
use Rattle.ckr_entry.specs.Entry.{IsEntry}
use Rattle.ckr_entry.specs.Parts.{Entry}
use Rattle.ckr_events.specs.declared.event.Event.{Event}
use Rattle.ckr_events.specs.declared.event.Event.TheVariants.{Denied, Selected}
use Rattle.ckr_jcl.specs.declared.deck.Kind.{Kind}
use Rattle.ckr_library.specs.NameMaps.{Name, entry_at}
use Rattle.ckr_meaning.specs.EffectiveJob.{OwnedStep}
use Rattle.ckr_points.specs.Freshness.{plain_denial}
use Rattle.ckr_points.specs.Restart.{kept_at, syschk_name}
use Rattle.ckr_points.specs.Rows.{KeptEntry, RunRow, TableSet, TablesModel, run_of, step_of_run}
use Rattle.ckr_rules.specs.RuleTables.{rule_number}
use Rattle.ckr_rules.specs.declared.cases.Rule.{Rule}
use Rattle.ckr_rules.specs.declared.cases.Rule.TheVariants.{D3}
use Rattle.ckr_desk_refines.specs.Moves.{KnowsItsEntry}
use Rattle.ckr_volumes.specs.declared.layout.Layout.{Layout}
use Rattle.ckr_desk.specs.Points.{point_at, point_in}
use Rattle.ckr_desk.specs.declared.continuation.Continuation.{Continuation}

-- ---- where a run goes on

-- where a run is selected to continue an earlier one, and at which checkpoint of a step of it
abbrev pub continuation_by : Event → Option Continuation
continuation_by (Selected job initiator earlier step id) =
    if earlier == 0 then None else option_map (λ (text : Name). record { job = job; earlier = earlier; step = step; id = text }) id
continuation_by _ = None

abbrev pub continuation_in : Plan → Option Continuation
continuation_in (Tell reply event) = continuation_by event
continuation_in _ = None

-- ---- the entry

-- the first entry of an identifier that the data set of a name keeps
abbrev pub there_under : TablesModel → Name → Name → Option EntryThere
there_under tables id name =
    option_and_then (λ (table : TableSet). option_map (λ (entry : KeptEntry). record { set = table.set; entry = entry }) (kept_at tables.sets name id)) (entry_at tables.sets name)

-- the entry at which a run goes on: that of its SYSCHK
abbrev pub entry_there : TablesModel → Continuation → Option EntryThere
entry_there tables at = option_and_then (λ (row : RunRow). there_under tables at.id (syschk_name row.deck)) (run_of tables at.job)

-- the program of a step of a run
abbrev pub program_in : TablesModel → ℕ → ℕ → Option Kind
program_in tables run step =
    option_map (λ (owned : OwnedStep). owned.step.program) (option_and_then (λ (row : RunRow). step_of_run row step) (run_of tables run))

-- ---- what is judged

-- the point of a run whose step stands so, or the rule
abbrev pub point_by : ℕ → Result StepState Rule → Result PointView Rule
point_by run (Ok state) = Ok (point_at run state)
point_by run (Err rule) = Err rule

abbrev pub judged_point : Layout → TablesModel → List ℕ → Continuation → Result PointView Rule
judged_point layout tables image at =
    option_map_or (λ (there : EntryThere). point_by at.job (judged_there layout image (program_in tables at.earlier at.step) there)) (entry_there tables at) (Err D3)

-- the restart is denied by a rule that tells no name
abbrev pub denial_plan : ℕ → Rule → Plan
denial_plan job rule = Tell (DeniedRestart job (plain_denial rule)) (Denied job (rule_number rule) None)

abbrev pub plan_by : Plan → ℕ → Result PointView Rule → Plan
plan_by plan job (Ok point) = plan
plan_by plan job (Err rule) = denial_plan job rule

-- a plan behind what was read, if it goes on at a checkpoint
abbrev pub judged_plan : Layout → TablesModel → List ℕ → Plan → Plan
judged_plan layout tables image plan =
    option_map_or (λ (at : Continuation). plan_by plan at.job (judged_point layout tables image at)) (continuation_in plan) plan

-- ---- on any disk

-- a point that was found is that of an entry with a state of the step's program
pub record IsEntryPoint (run : ℕ) (program : Option Kind) (point : PointView) : Type 0 where
  pub entry : Entry
  pub form : IsEntry entry
  pub is : point ≡ point_in run entry
  pub right : is_of_program program entry ≡ true

abbrev pub IsPointFound : ℕ → Option Kind → Result PointView Rule → Type 0
IsPointFound run program (Ok point) = IsEntryPoint run program point
IsPointFound run program (Err rule) = IsEntryRule rule

-- where a run goes on at a checkpoint by a plan, its point is known
abbrev pub PlanKnows : TablesModel → List PointView → Plan → Type 0
PlanKnows tables points (Tell reply event) = KnowsItsPoint event tables points
PlanKnows tables points _ = Unit {0}

-- ---- on a trusted disk

-- the point in memory is that of the entry at which a run goes on by a plan
abbrev pub PlanStandsAt : DeskModel → List PointView → Plan → Type 0
PlanStandsAt desk points (Tell reply event) = KnowsItsEntry event desk points
PlanStandsAt desk points _ = Unit {0}

-- the plan stays, and the point stands
pub record GoesOnThere (desk : DeskModel) (points : List PointView) (plan given : Plan) : Type 0 where
  pub same : given ≡ plan
  pub point : PlanStandsAt desk points plan
