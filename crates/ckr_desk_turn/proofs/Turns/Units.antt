-- The turn of a unit of a running step.
use Rattle.std.proofs.Common.{◌≡◌, ◌≤◌, ◌<◌, ℕ, Bool, suc, List, true, false, length, ap, sym, ◌∙◌, subst, Option, Option, Some, None, arith}
use Rattle.std.specs.Option.{option_map_or}
use Rattle.ckr_base.specs.declared.code.Code.{Code}
use Rattle.ckr_console.specs.declared.question.Answer.{Answer}
use Rattle.ckr_base.specs.declared.programs.Finish.{Finish}
use Rattle.ckr_base.specs.declared.programs.Finish.TheVariants.{Abend, Returned}
use Rattle.ckr_base.proofs.Numbers.{nat_le-beyond, nat_le-from}
use Rattle.ckr_base.specs.Columns.{fitted}
use Rattle.ckr_events.specs.declared.event.Event.TheVariants.{Rewritten as RewrittenEvent}
use Rattle.ckr_meaning.specs.Program.{records_taken, unit_done as program_unit}
use Rattle.ckr_meaning.specs.StepRun.{StepStart, case_at, work_at}
use Rattle.ckr_meaning.proofs.Prefixes.{takes_one}
use Rattle.ckr_points.specs.Rows.{RunRow}
use Rattle.ckr_desk_turn.specs.declared.plan.Plan.TheVariants.{Rest, Tell}
use Rattle.ckr_points.specs.declared.reply.Reply.TheVariants.{Idle, Worked}
use Rattle.ckr_desk_turn.specs.Desk.{DeskModel, DeskStep, TurnDone, done_by, jobs_of, progress_of, seen, seen_from, unit_done, with_progress, work_of}
use Rattle.ckr_desk_turn.specs.Jobs.{TurnStep, step_name_of}
use Rattle.ckr_desk_turn.specs.Units.{StepProgress, UnitEnd, abended, arrived, finished_by, first_rewrite, no_more_space, unit_end, updated_lrecl, went}
use Rattle.ckr_desk_turn.specs.NextEvents.{IsWithinStep}
use Rattle.ckr_desk_turn.specs.Invariant.{IsDesk, IsGoing, IsOpen, Keeps, next_writes}
use Rattle.ckr_desk_turn.proofs.Units.LastUnit.{full-plain, goes-closed, update-once}
use Rattle.ckr_desk_turn.proofs.Units.Progress.{goes-further}
use Rattle.ckr_desk_turn.proofs.RunningSteps.{going-within, seen-so}
use Rattle.ckr_desk_turn.proofs.Rewrite.Invariant.{IsTold, rewritten-comes, rewritten-kept, told}
use Rattle.ckr_desk_turn.proofs.Rewrite.Event.{Rewrites}
use Rattle.ckr_desk_turn.proofs.Rewrite.UpdateUnit.{rewrites-so, some-first}
use Rattle.ckr_desk_turn.proofs.Units.Invariant.{ended-keeps, went-keeps}
use Rattle.ckr_points.specs.Payload.{start_in_office}

-- what a unit comes to, by whether its writes fit
abbrev end_by : StepStart → StepProgress → Bool → UnitEnd
end_by start before fit = elim fit as (λ fit. UnitEnd) [
  | true ↦ finished_by (program_unit (case_at start) before.taken).finish (program_unit (case_at start) before.taken).writes.items before (next_writes start before)
  | false ↦ record { unit = abended no_more_space; progress = record before { writes = length (work_at start).writes } }
]

spills : (start : StepStart) (before : StepProgress) → length (work_at start).writes < next_writes start before → unit_end start before ≡ end_by start before false
spills start before full =
    ap (end_by start before) (nat_le-beyond (next_writes start before) (length (work_at start).writes) full)

fits : (start : StepStart) (before : StepProgress) → next_writes start before ≤ length (work_at start).writes → unit_end start before ≡ end_by start before true
fits start before within = ap (end_by start before) (nat_le-from (next_writes start before) (length (work_at start).writes) within)

module _ (answer : Answer) (desk : DeskModel) (is : IsDesk desk) (on : DeskStep) (going : IsGoing desk.office on) (known : progress_of desk on.run ≡ Some on.progress) where
  numbered : going.row.number ≡ on.run
  numbered = is.kept.events.numbered on.run going.row going.row_at

  works : work_of answer on.run desk ≡ unit_done answer going.row (unit_end going.start on.progress) desk
  works =
      ap (λ (o : Option RunRow). option_map_or (λ row. option_map_or (λ start. option_map_or (λ progress. unit_done answer row (unit_end start progress) desk) (progress_of desk on.run) (done_by (Rest Idle) desk)) (start_in_office desk.office row) (done_by (Rest Idle) desk)) o (done_by (Rest Idle) desk)) going.row_at
      ∙ ap (λ (o : Option StepStart). option_map_or (λ start. option_map_or (λ progress. unit_done answer going.row (unit_end start progress) desk) (progress_of desk on.run) (done_by (Rest Idle) desk)) o (done_by (Rest Idle) desk)) going.start_at
      ∙ ap (λ (o : Option StepProgress). option_map_or (λ progress. unit_done answer going.row (unit_end going.start progress) desk) o (done_by (Rest Idle) desk)) known

  -- a unit whose writes fit, by what becomes of its program
  works_so : (finish : Option Finish) → next_writes going.start on.progress ≤ length (work_at going.start).writes → (program_unit (case_at going.start) on.progress.taken).finish ≡ finish
      → work_of answer on.run desk ≡ unit_done answer going.row (finished_by finish (program_unit (case_at going.start) on.progress.taken).writes.items on.progress (next_writes going.start on.progress)) desk
  works_so finish fit becomes =
      works
      ∙ ap (λ end. unit_done answer going.row end desk)
      (fits going.start on.progress fit ∙ ap (λ o. finished_by o (program_unit (case_at going.start) on.progress.taken).writes.items on.progress (next_writes going.start on.progress)) becomes)

  goes_so : (progress : StepProgress) → IsGoing desk.office (record { run = on.run; progress = progress; code = None }) → IsGoing desk.office (record { run = going.row.number; progress = progress; code = None })
  goes_so progress its = subst (λ n. IsGoing desk.office (record { run = n; progress = progress; code = None })) (sym numbered) its

  here : IsWithinStep desk.office going.row.number going.row going.number going.committed going.start
  here = subst (λ n. IsWithinStep desk.office n going.row going.number going.committed going.start) (sym numbered) (going-within desk.office on going)

  -- a unit that takes a record
  pub work-went : IsOpen going.start on.progress → on.progress.taken < records_taken (case_at going.start) → next_writes going.start on.progress ≤ length (work_at going.start).writes → first_rewrite (program_unit (case_at going.start) on.progress.taken).writes.items ≡ None → Keeps desk (work_of answer on.run desk)
  work-went opened below fit none =
      subst (Keeps desk)
      (sym (works_so None fit (takes_one (case_at going.start) on.progress.taken below).goes_on
      ∙ ap (λ o. unit_done answer going.row (record { unit = went o; progress = arrived (suc on.progress.taken) (next_writes going.start on.progress) }) desk) none))
      (went-keeps answer desk is going.row (arrived (suc on.progress.taken) (next_writes going.start on.progress))
      (goes_so _ (goes-further desk.office on going opened below fit none)))

  -- the closing unit of a program that ends with a code
  pub work-abended : (code : Code) → next_writes going.start on.progress ≤ length (work_at going.start).writes → (program_unit (case_at going.start) on.progress.taken).finish ≡ Some (Abend code) → Keeps desk (work_of answer on.run desk)
  work-abended code fit ends =
      subst (Keeps desk) (sym (works_so (Some (Abend code)) fit ends))
      (ended-keeps answer desk is going.row going.number going.committed going.start here on.progress code going.behind going.fit going.plain)

  -- the unit by which a program returns
  pub work-closed : (rc : ℕ) → IsOpen going.start on.progress → next_writes going.start on.progress ≤ length (work_at going.start).writes → (program_unit (case_at going.start) on.progress.taken).finish ≡ Some (Returned rc) → Keeps desk (work_of answer on.run desk)
  work-closed rc opened fit returned =
      subst (Keeps desk) (sym (works_so (Some (Returned rc)) fit returned))
      (went-keeps answer desk is going.row (record on.progress { writes = next_writes going.start on.progress; closed = true })
      (goes_so _ (goes-closed desk.office on going rc opened fit returned)))

  -- the unit of which a write has no space
  pub work-full : IsOpen going.start on.progress → length (work_at going.start).writes < next_writes going.start on.progress → Keeps desk (work_of answer on.run desk)
  work-full opened full =
      let fit : on.progress.writes ≤ length (work_at going.start).writes = going.fit in
      let behind : going.committed ≤ on.progress.writes = going.behind in
      subst (Keeps desk)
      (sym (works ∙ ap (λ end. unit_done answer going.row end desk) (spills going.start on.progress full)))
      (ended-keeps answer desk is going.row going.number going.committed going.start here
      (record on.progress { writes = length (work_at going.start).writes }) no_more_space (omega (arith, behind, fit)) (omega arith) (full-plain desk.office on going opened full))

  -- the unit by which UPDATE rewrites a record
  module _ (at : ℕ × List ℕ) (opened : IsOpen going.start on.progress) (below : on.progress.taken < records_taken (case_at going.start)) (fit : next_writes going.start on.progress ≤ length (work_at going.start).writes) (first : first_rewrite (program_unit (case_at going.start) on.progress.taken).writes.items ≡ Some at) where
    its_rewrite : Rewrites going.start on.progress.writes (suc on.progress.taken) at
    its_rewrite = rewrites-so desk.office on going at opened below fit first

    count : next_writes going.start on.progress ≡ suc on.progress.writes
    count =
        let once : length (program_unit (case_at going.start) on.progress.taken).writes.items ≤ 1 = update-once going.start on.progress.taken opened.taken its_rewrite.updates in
        let some : 1 ≤ length (program_unit (case_at going.start) on.progress.taken).writes.items = some-first (program_unit (case_at going.start) on.progress.taken).writes.items at first in
        omega (arith, once, some)

    abbrev its_progress : StepProgress
    its_progress = arrived (suc on.progress.taken) (suc on.progress.writes)

    abbrev its_told : IsTold desk.office going.row going.start on.progress.writes at
    its_told = told desk is going.row.number going.row going.number going.committed going.start here on.progress.writes (suc on.progress.taken) at going.behind going.plain its_rewrite

    -- as the jobs see the step behind it
    its_seen : seen desk.office going.row.number its_progress ≡ seen_from desk.office going.row.number its_progress going.start
    its_seen = seen-so desk.office going.row.number its_progress going.row going.start here.row_at going.start_at

    abbrev told_by : TurnStep → ℕ → TurnDone
    told_by step lrecl =
        done_by (Tell (Worked going.row.number (step_name_of going.row) step.taken)
        (RewrittenEvent going.row.number step.taken step.writes (record { items = step.lengths }) at.0 (fitted lrecl at.1)))
        (with_progress going.row.number its_progress desk)

    pub work-rewrote : Keeps desk (work_of answer on.run desk)
    work-rewrote =
        subst (Keeps desk)
        (sym (works_so None fit (takes_one (case_at going.start) on.progress.taken below).goes_on
        ∙ ap (λ o. unit_done answer going.row (record { unit = went o; progress = arrived (suc on.progress.taken) (next_writes going.start on.progress) }) desk) first
        ∙ ap (λ n. unit_done answer going.row (record { unit = went (Some at); progress = arrived (suc on.progress.taken) n }) desk) count
        ∙ ap (λ step. told_by step (updated_lrecl (jobs_of (with_progress going.row.number its_progress desk)) going.row)) its_seen
        ∙ ap (told_by (seen_from desk.office going.row.number its_progress going.start)) its_told.lrecl))
        (record {
          comes = rewritten-comes desk is going.row.number going.row going.number going.committed going.start here on.progress.writes (suc on.progress.taken) at going.behind going.plain its_rewrite;
          kept = rewritten-kept desk is going.row.number going.row going.number going.committed going.start here on.progress.writes (suc on.progress.taken) at going.behind going.plain its_rewrite;
        })
