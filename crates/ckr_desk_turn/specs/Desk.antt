-- The desk between two turns, with all that its jobs are to do: a plan and a unit with the desk behind each, and the calls that are no turns.
use Rattle.std.specs.Prelude.{ℕ, zero, suc, ◌==◌, Bool, true, false, ◌&&◌, not, if◌then◌else◌, List, [], ◌∷◌, map, filter, find, length, Option, None, Some}
use Rattle.std.specs.Option.{option_map_or, is_some}
use Rattle.ckr_base.specs.declared.code.Code.{Code}
use Rattle.ckr_base.specs.declared.programs.NextDue.TheVariants.{Unit as OneUnit}
use Rattle.ckr_console.specs.declared.question.Answer.{Answer}
use Rattle.ckr_events.specs.declared.event.Event.{Event}
use Rattle.ckr_events.specs.declared.event.Event.TheVariants.{Submitted, Selected, Started, Cancelled, StepEnded, Restarted, Held, Released, Ended, Purged}
use Rattle.ckr_jcl.specs.declared.deck.Job.{Job}
use Rattle.ckr_library.specs.NameMaps.{Name}
use Rattle.ckr_meaning.specs.StepRun.{StepStart}
use Rattle.ckr_points.specs.Payload.{lengths_at, start_in_office}
use Rattle.ckr_points.specs.Office.{Office, office_after}
use Rattle.ckr_points.specs.Restart.{kept_at, place_of, syschk_name}
use Rattle.ckr_points.specs.Rows.{EntryPoint, RunRow, TablesModel, run_of}
use Rattle.ckr_volumes.specs.declared.layout.Layout.{Layout}
use Rattle.ckr_desk_turn.specs.declared.plan.Plan.{Plan}
use Rattle.ckr_desk_turn.specs.declared.failed_run.FailedRun.{FailedRun}
use Rattle.ckr_desk_turn.specs.declared.plan.Plan.TheVariants.{Rest, Tell, Work, Pass, Take, Ask, Wait}
use Rattle.ckr_points.specs.declared.reply.Reply.{Reply}
use Rattle.ckr_points.specs.declared.reply.Reply.TheVariants.{AwaitingReply, Idle}
use Rattle.ckr_desk_turn.specs.Due.{next_due}
use Rattle.ckr_desk_turn.specs.Inquiries.{decide, is_ask}
use Rattle.ckr_desk_turn.specs.Jobs.{TurnJobs, TurnStep, as_stopped, effect_entry}
use Rattle.ckr_desk_turn.specs.Plans.{is_within}
use Rattle.ckr_desk_turn.specs.Units.{StepProgress, UnitEnd, arrived, unit_end, unit_plan}

-- a running step: its run, how far it has come, and the code with which its run waits for the operator's word, if it does
pub record DeskStep : Type 0 where
  pub run : ℕ
  pub progress : StepProgress
  pub code : Option Code

-- the tables with what the jobs leave, the running steps, and the runs that were running when the system failed
pub record DeskModel : Type 0 where
  pub layout : Layout
  pub office : Office
  pub running : List DeskStep
  pub failed : List FailedRun

-- the reply of a turn, its event or none, the desk behind it, and whether the operator was asked
pub record TurnDone : Type 0 where
  pub reply : Reply
  pub event : Option Event
  pub desk : DeskModel
  pub asked : Bool

abbrev pub start_in_run : Office → ℕ → Option StepStart
start_in_run office run = option_map_or (start_in_office office) (run_of office.tables run) None

-- ---- its jobs

-- a running step as its job has it
abbrev pub seen_from : Office → ℕ → StepProgress → StepStart → TurnStep
seen_from office run progress start = record {
  run = run;
  taken = progress.taken;
  writes = progress.writes;
  due = next_due start progress;
  lengths = lengths_at start office.tables.sets progress.writes;
  code = None;
}

abbrev pub seen : Office → ℕ → StepProgress → TurnStep
seen office run progress =
    option_map_or (seen_from office run progress) (start_in_run office run)
    (record { run = run; taken = progress.taken; writes = progress.writes; due = OneUnit; lengths = []; code = None })

abbrev pub seen_step : Office → DeskStep → TurnStep
seen_step office step = as_stopped step.code (seen office step.run step.progress)

abbrev pub jobs_of : DeskModel → TurnJobs
jobs_of desk = record {
  tables = desk.office.tables;
  running = map (seen_step desk.office) desk.running;
  failed = desk.failed;
}

-- ---- the desk behind an event

abbrev pub without_run : ℕ → List DeskStep → List DeskStep
without_run run running = filter (λ step. not (step.run == run)) running

abbrev pub at_first : ℕ → DeskStep
at_first run = record { run = run; progress = arrived 0 0; code = None }

-- the running step of a run with this change, before the others
abbrev pub with_change : ℕ → (StepProgress → StepProgress) → List DeskStep → List DeskStep
with_change run change running =
    option_map_or (λ step. record { run = run; progress = change step.progress; code = None } ∷ without_run run running) (find (λ step. step.run == run) running) running

-- the checkpoint is done that is due, or the cancel
abbrev pub checkpoint_done : StepProgress → StepProgress
checkpoint_done progress = record progress { checkpointed = true }

abbrev pub cancel_done : StepProgress → StepProgress
cancel_done progress = record progress { cancelled = true }

-- a step that goes on from an entry: behind the records taken and the writes that the entry tells, with its checkpoint done
abbrev pub at_entry : ℕ → EntryPoint → DeskStep
at_entry run point = record { run = run; progress = checkpoint_done (arrived point.taken point.writes); code = None }

-- a run that is restarted at its checkpoint goes on from its entry
abbrev pub running_again : TablesModel → ℕ → List DeskStep → List DeskStep
running_again tables run running =
    option_map_or (λ entry. at_entry run entry.point ∷ without_run run running) (option_map_or (effect_entry tables) (run_of tables run) None) (without_run run running)

-- a run that goes on at a checkpoint of an earlier one goes on from its entry
abbrev pub running_from : TablesModel → ℕ → Name → List DeskStep → List DeskStep
running_from tables run id running =
    option_map_or (λ entry. at_entry run entry.point ∷ without_run run running)
    (option_map_or (λ row. kept_at tables.sets (syschk_name row.deck) id) (run_of tables run) None) running

-- a step is running from its start, or from a checkpoint at which its run is restarted or goes on with an earlier one, until it ends, or its run ends, is held or restarted
abbrev pub running_behind : TablesModel → Event → List DeskStep → List DeskStep
running_behind tables (Selected job initiator (suc before) step (Some id)) running = running_from tables job id running
running_behind tables (Selected job initiator (suc before) step None) running = running
running_behind tables (Selected job initiator zero step id) running = running
running_behind tables (Started job step items) running = at_first job ∷ without_run job running
running_behind tables (Cancelled job) running = with_change job cancel_done running
running_behind tables (StepEnded job step rc writes lengths) running = without_run job running
running_behind tables (Restarted job initiator code true) running = running_again tables job running
running_behind tables (Restarted job initiator code false) running = without_run job running
running_behind tables (Held job code writes lengths) running = without_run job running
running_behind tables (Ended job ending) running = without_run job running
running_behind tables _ running = running

-- the marked runs but this one
abbrev pub without_mark : ℕ → List FailedRun → List FailedRun
without_mark run failed = filter (λ (one : FailedRun). not (one.run == run)) failed

-- a run that is restarted, is held or has ended isn't marked any more
abbrev pub failed_behind : Event → List FailedRun → List FailedRun
failed_behind (Restarted job initiator code checkpoint) failed = without_mark job failed
failed_behind (Held job code writes lengths) failed = without_mark job failed
failed_behind (Ended job ending) failed = without_mark job failed
failed_behind _ failed = failed

-- the desk behind an event; the deck is given for one that is submitted
abbrev pub behind : Event → Option Job → DeskModel → DeskModel
behind event deck desk = record {
  layout = desk.layout;
  office = office_after (event, deck) desk.office;
  running = running_behind desk.office.tables event desk.running;
  failed = failed_behind event desk.failed;
}

-- ---- a run that waits with its code for the operator's word

-- of how far its step has come only the writes are asked
abbrev pub coded_step : ℕ → Code → DeskStep → DeskStep
coded_step run code step = if step.run == run then record { run = step.run; progress = arrived 0 step.progress.writes; code = Some code } else step

abbrev pub with_code : ℕ → Code → List DeskStep → List DeskStep
with_code run code running = map (coded_step run code) running

abbrev pub asked_run : ℕ → FailedRun → FailedRun
asked_run run one = if one.run == run then record one { asked = true } else one

abbrev pub with_asked : ℕ → List FailedRun → List FailedRun
with_asked run failed = map (asked_run run) failed

-- its step stops where it has come to, and where it was running when the system failed, he was asked
abbrev pub waiting : ℕ → Code → DeskModel → DeskModel
waiting run code desk = record desk { running = with_code run code desk.running; failed = with_asked run desk.failed }

-- ---- a plan

-- what work, checkpoints and questions come to isn't said here: that is the step's, and the operator's
abbrev pub done_by : Plan → DeskModel → TurnDone
done_by (Rest reply) desk = record { reply = reply; event = None; desk = desk; asked = false }
done_by (Tell reply event) desk = record { reply = reply; event = Some event; desk = behind event None desk; asked = false }
done_by (Work job) desk = record { reply = Idle; event = None; desk = desk; asked = false }
done_by (Pass job reply) desk = record { reply = reply; event = None; desk = record desk { running = with_change job checkpoint_done desk.running }; asked = false }
done_by (Take job) desk = record { reply = Idle; event = None; desk = desk; asked = false }
done_by (Ask inquiry) desk = record { reply = Idle; event = None; desk = desk; asked = false }
done_by (Wait job code) desk = record { reply = AwaitingReply; event = None; desk = waiting job code desk; asked = false }

-- a plan with the operator's answer, which it rests on if it asks him
abbrev pub answered : Answer → Plan → DeskModel → TurnDone
answered answer plan desk = record (done_by (decide answer plan) desk) { asked = is_ask plan }

abbrev pub with_progress : ℕ → StepProgress → DeskModel → DeskModel
with_progress run progress desk = record desk { running = record { run = run; progress = progress; code = None } ∷ without_run run desk.running }

-- a unit of a running step, with the desk behind it
abbrev pub unit_done : Answer → RunRow → UnitEnd → DeskModel → TurnDone
unit_done answer row end desk =
    let moved = with_progress row.number end.progress desk in
    answered answer (unit_plan desk.layout (jobs_of moved) row (seen moved.office row.number end.progress) end.unit) moved

-- how far a step has come whose run doesn't wait with a code
abbrev pub progress_unless : Option Code → StepProgress → Option StepProgress
progress_unless None progress = Some progress
progress_unless (Some code) progress = None

abbrev pub progress_of : DeskModel → ℕ → Option StepProgress
progress_of desk run = option_map_or (λ step. progress_unless step.code step.progress) (find (λ step. step.run == run) desk.running) None

abbrev pub work_of : Answer → ℕ → DeskModel → TurnDone
work_of answer run desk =
    option_map_or
    (λ row.
    option_map_or
    (λ start. option_map_or (λ progress. unit_done answer row (unit_end start progress) desk) (progress_of desk run) (done_by (Rest Idle) desk))
    (start_in_office desk.office row) (done_by (Rest Idle) desk))
    (run_of desk.office.tables run) (done_by (Rest Idle) desk)

-- ---- the other calls

-- the desk behind a deck that was submitted, with its cards
abbrev pub submitted : List ℕ → Job → DeskModel → DeskModel
submitted cards deck desk = behind (Submitted (suc (length desk.office.tables.runs)) cards) (Some deck) desk

-- the desk behind a queued run that was purged
abbrev pub purged : ℕ → DeskModel → DeskModel
purged job desk = behind (Purged job) None desk

-- the desk behind a held run that was released
abbrev pub released : ℕ → DeskModel → DeskModel
released job desk = behind (Released job) None desk

-- whether a run on an initiator is within a step
abbrev pub is_running : RunRow → Bool
is_running row = is_some row.initiator && is_within (place_of row)

-- the desk behind its opening: what was running has failed
abbrev pub opened : Layout → Office → DeskModel
opened layout office = record {
  layout = layout;
  office = office;
  running = [];
  failed = map (λ (row : RunRow). record { run = row.number; asked = false }) (filter is_running office.tables.runs);
}
