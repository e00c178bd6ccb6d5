-- The turn of a unit that asks for a rewrite in place tells it.
use Rattle.std.proofs.Common.{◌≡◌, ◌≤◌, ℕ, suc, Bool, true, false, List, length, ap, sym, ◌∙◌, subst, Option, Some, arith}
use Rattle.std.specs.Option.{option_map_or}
use Rattle.ckr_base.specs.declared.programs.Finish.{Finish}
use Rattle.ckr_base.proofs.Numbers.{nat_le-from}
use Rattle.ckr_base.specs.Columns.{fitted}
use Rattle.ckr_console.specs.declared.question.Answer.{Answer}
use Rattle.ckr_events.specs.declared.event.Event.{Event}
use Rattle.ckr_events.specs.declared.event.Event.TheVariants.{Rewritten as RewrittenEvent}
use Rattle.ckr_library.specs.Catalog.{Catalog}
use Rattle.ckr_meaning.specs.Program.{unit_done as program_unit}
use Rattle.ckr_meaning.specs.StepRun.{StepStart, case_at, work_at}
use Rattle.ckr_points.specs.Payload.{lengths_at, start_in_office}
use Rattle.ckr_points.specs.Rows.{RunRow, run_of}
use Rattle.ckr_steps.specs.declared.step_run.StepRun.{StepRun}
use Rattle.ckr_steps.specs.Places.{IsToRewrite}
use Rattle.ckr_desk_turn.specs.declared.plan.Plan.TheVariants.{Rest, Tell}
use Rattle.ckr_points.specs.declared.reply.Reply.TheVariants.{Idle, Worked}
use Rattle.ckr_desk_turn.specs.Desk.{DeskModel, DeskStep, TurnDone, done_by, jobs_of, progress_of, seen_from, unit_done, with_progress, work_of}
use Rattle.ckr_desk_turn.specs.Jobs.{TurnStep, step_name_of}
use Rattle.ckr_desk_turn.specs.Units.{StepProgress, UnitEnd, abended, arrived, finished_by, no_more_space, unit_end, updated_lrecl, went}
use Rattle.ckr_desk_turn.specs.Invariant.{next_writes}
use Rattle.ckr_desk_turn.proofs.RunningSteps.{seen-so}
use Rattle.ckr_volumes.specs.declared.layout.Layout.{Layout}
use Rattle.ckr_desk_refines.proofs.Rewrites.Unit.{first, fits, goes-on, only}

-- what a unit comes to, by whether its writes fit
abbrev end_by : StepStart → StepProgress → Bool → UnitEnd
end_by start before fit = elim fit as (λ fit. UnitEnd) [
  | true ↦ finished_by (program_unit (case_at start) before.taken).finish (program_unit (case_at start) before.taken).writes.items before (next_writes start before)
  | false ↦ record { unit = abended no_more_space; progress = record before { writes = length (work_at start).writes } }
]

-- the event of a rewrite
abbrev pub rewritten_event : ℕ → ℕ → ℕ → List ℕ → ℕ → List ℕ → Event
rewritten_event run taken writes lengths place bytes = RewrittenEvent run taken writes (record { items = lengths }) place bytes

abbrev pub told_so : RunRow → ℕ → ℕ → List ℕ → ℕ → List ℕ → DeskModel → TurnDone
told_so row taken writes lengths place bytes desk =
    done_by (Tell (Worked row.number (step_name_of row) taken) (rewritten_event row.number taken writes lengths place bytes))
    (with_progress row.number (arrived taken writes) desk)

module _ (desk : DeskModel) (on : DeskStep) (row : RunRow) (start : StepStart) (row_at : run_of desk.office.tables on.run ≡ Some row) (numbered : run_of desk.office.tables row.number ≡ Some row) (start_at : start_in_office desk.office row ≡ Some start)
    (answer : Answer) (found : progress_of desk on.run ≡ Some on.progress)
    (told : Type 0) (image : List ℕ) (layout : Layout) (taken place : ℕ) (bytes : List ℕ) (old new : StepRun) (sets : Catalog)
    (rewrite : IsToRewrite told image layout start on.progress.taken taken place bytes old new sets) (counts : old.writes ≡ on.progress.writes) (next : taken ≡ suc on.progress.taken)
    (lrecl : updated_lrecl (jobs_of desk) row ≡ rewrite.rewritten.lrecl) where
  works : work_of answer on.run desk ≡ unit_done answer row (unit_end start on.progress) desk
  works =
      ap (λ (o : Option RunRow). option_map_or (λ row. option_map_or (λ start. option_map_or (λ progress. unit_done answer row (unit_end start progress) desk) (progress_of desk on.run) (done_by (Rest Idle) desk)) (start_in_office desk.office row) (done_by (Rest Idle) desk)) o (done_by (Rest Idle) desk)) row_at
      ∙ ap (λ (o : Option StepStart). option_map_or (λ start. option_map_or (λ progress. unit_done answer row (unit_end start progress) desk) (progress_of desk on.run) (done_by (Rest Idle) desk)) o (done_by (Rest Idle) desk)) start_at
      ∙ ap (λ (o : Option StepProgress). option_map_or (λ progress. unit_done answer row (unit_end start progress) desk) o (done_by (Rest Idle) desk)) found

  count : next_writes start on.progress ≡ new.writes
  count =
      let one : length (program_unit (case_at start) on.progress.taken).writes.items ≡ 1 = ap length (only told image layout start on.progress.taken taken place bytes old new sets rewrite next) in
      omega (arith, one, counts, rewrite.counted)

  abbrev end_with : ℕ → ℕ → Option (ℕ × List ℕ) → UnitEnd
  end_with records writes at = record { unit = went at; progress = arrived records writes }

  end_is : unit_end start on.progress ≡ end_with taken new.writes (Some (place, rewrite.write.image))
  end_is =
      ap (end_by start on.progress)
      (nat_le-from (next_writes start on.progress) (length (work_at start).writes)
      (subst (λ n. n ≤ length (work_at start).writes) (sym count) (fits told image layout start on.progress.taken taken place bytes old new sets rewrite)))
      ∙ ap (λ (o : Option Finish). finished_by o (program_unit (case_at start) on.progress.taken).writes.items on.progress (next_writes start on.progress)) (goes-on told image layout start on.progress.taken taken place bytes old new sets rewrite next)
      ∙ ap (end_with (suc on.progress.taken) (next_writes start on.progress)) (first told image layout start on.progress.taken taken place bytes old new sets rewrite next)
      ∙ ap (λ n. end_with (suc on.progress.taken) n (Some (place, rewrite.write.image))) count
      ∙ ap (λ n. end_with n new.writes (Some (place, rewrite.write.image))) (sym next)

  abbrev further : StepProgress
  further = arrived taken new.writes

  abbrev told_by_step : TurnStep → List ℕ → TurnDone
  told_by_step step bytes =
      done_by (Tell (Worked row.number (step_name_of row) step.taken) (rewritten_event row.number step.taken step.writes step.lengths place bytes))
      (with_progress row.number further desk)

  pub work-told : work_of answer on.run desk ≡ told_so row taken new.writes (lengths_at start desk.office.tables.sets new.writes) place bytes desk
  work-told =
      works
      ∙ ap (λ end. unit_done answer row end desk) end_is
      ∙ ap (λ step. told_by_step step (fitted (updated_lrecl (jobs_of desk) row) rewrite.write.image)) (seen-so desk.office row.number further row start numbered start_at)
      ∙ ap (told_by_step (seen_from desk.office row.number further start)) (ap (λ n. fitted n rewrite.write.image) lrecl ∙ sym rewrite.fits)
