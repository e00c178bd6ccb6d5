-- The units of a running step: what the next one comes to, and what the turn tells of it.
use Rattle.std.specs.Prelude.{ℕ, suc, ◌+◌, nat_le, Bool, true, false, List, [], ◌∷◌, length, Option, None, Some}
use Rattle.std.specs.Option.{option_map_or}
use Rattle.ckr_base.specs.declared.code.Code.{Code}
use Rattle.ckr_base.specs.declared.code.Code.TheVariants.{System}
use Rattle.ckr_base.specs.declared.programs.Finish.{Finish}
use Rattle.ckr_base.specs.declared.programs.Finish.TheVariants.{Returned, Abend}
use Rattle.ckr_base.specs.declared.programs.Write.{Write}
use Rattle.ckr_base.specs.Columns.{fitted}
use Rattle.ckr_events.specs.declared.event.Event.TheVariants.{Rewritten as RewrittenEvent}
use Rattle.ckr_library.specs.NameMaps.{entry_at}
use Rattle.ckr_meaning.specs.Program.{unit_done}
use Rattle.ckr_meaning.specs.StepRun.{StepStart, case_at, work_at}
use Rattle.ckr_points.specs.Tables.{name_with_role, is_updates}
use Rattle.ckr_points.specs.Restart.{place_of, step_in}
use Rattle.ckr_points.specs.Rows.{RunRow, step_of_run}
use Rattle.ckr_points.specs.Soundness.{rewrite_of}
use Rattle.ckr_volumes.specs.declared.layout.Layout.{Layout}
use Rattle.ckr_desk_turn.specs.declared.plan.Plan.{Plan}
use Rattle.ckr_desk_turn.specs.declared.plan.Plan.TheVariants.{Rest, Tell}
use Rattle.ckr_points.specs.declared.reply.Reply.TheVariants.{Worked}
use Rattle.ckr_desk_turn.specs.Codes.{code_plan, initiator_of, running_reached}
use Rattle.ckr_desk_turn.specs.Jobs.{TurnJobs, TurnStep, step_name_of}

-- what a unit comes to: the step goes on, with the rewrite in place that the unit made, if it made one, or it ends with a code
pub data UnitOutcome : Type 0 where
  went : Option (ℕ × List ℕ) → UnitOutcome
  abended : Code → UnitOutcome

-- how far a step has come: the records taken, the writes made, whether the checkpoint and the cancel that may be due at this count of
-- records are done, and whether the closing unit is
pub record StepProgress : Type 0 where
  pub taken : ℕ
  pub writes : ℕ
  pub checkpointed : Bool
  pub cancelled : Bool
  pub closed : Bool

-- what a unit comes to, and how far the step has come behind it
pub record UnitEnd : Type 0 where
  pub unit : UnitOutcome
  pub progress : StepProgress

-- no more space
abbrev pub no_more_space : Code
no_more_space = System 2871

-- the place and the image of the first rewrite in place
abbrev pub first_rewrite : List Write → Option (ℕ × List ℕ)
first_rewrite [] = None
first_rewrite (write ∷ writes) = elim (rewrite_of write.output write.image) [ Some at ↦ Some at | None ↦ first_rewrite writes ]

-- behind so many records, with so many writes: at a new count nothing is served yet
abbrev pub arrived : ℕ → ℕ → StepProgress
arrived taken writes = record { taken = taken; writes = writes; checkpointed = false; cancelled = false; closed = false }

abbrev pub finished_by : Option Finish → List Write → StepProgress → ℕ → UnitEnd
finished_by None writes before count = record { unit = went (first_rewrite writes); progress = arrived (suc before.taken) count }
finished_by (Some (Returned rc)) writes before count =
    record { unit = went None; progress = record before { writes = count; closed = true } }
finished_by (Some (Abend code)) writes before count = record { unit = abended code; progress = before }

-- the next unit: its writes are made as far as they fit, and SB37 is the code where one doesn't
abbrev pub unit_end : StepStart → StepProgress → UnitEnd
unit_end start before =
    let done = unit_done (case_at start) before.taken in
    let most = length (work_at start).writes in
    let count = before.writes + length done.writes.items in
    elim (nat_le count most) [
      | true ↦ finished_by done.finish done.writes.items before count
      | false ↦ record { unit = abended no_more_space; progress = record before { writes = most } }
    ]

-- the record length of what a step of a run updates
abbrev pub updated_lrecl : TurnJobs → RunRow → ℕ
updated_lrecl jobs row =
    option_map_or
    (λ owned. option_map_or (λ table. table.set.lrecl) (entry_at jobs.tables.sets (name_with_role row.job.root owned is_updates)) 0)
    (step_of_run row (step_in (place_of row))) 0

-- the turn of a unit, with the running step behind it: a rewrite in place is told, with the record length of what is updated
abbrev pub unit_plan : Layout → TurnJobs → RunRow → TurnStep → UnitOutcome → Plan
unit_plan layout jobs row step (went None) = Rest (Worked row.number (step_name_of row) step.taken)
unit_plan layout jobs row step (went (Some at)) =
    Tell (Worked row.number (step_name_of row) step.taken)
    (RewrittenEvent row.number step.taken step.writes (record { items = step.lengths }) at.0 (fitted (updated_lrecl jobs row) at.1))
unit_plan layout jobs row step (abended code) = code_plan layout jobs.tables row (initiator_of row) true code (running_reached step)
