-- A turn's plan, case by case.
use Rattle.std.specs.Prelude.{if◌then◌else◌}
use Rattle.std.proofs.Common.{IfErr, ◌≡◌, ◌==◌, ◌≤◌, ℕ, zero, suc, Bool, true, false, cond, nat_eq, refl, ap, sym, ◌∙◌, subst, IsSome, List, [], ◌∷◌, find, length, pred, slice_get, Option, None, Some, Result, Ok, Err, arith}
use Rattle.std.specs.List.{AllByRecursion}
use Rattle.std.specs.Option.{is_none, is_some, option_eq, option_map, option_map_or}
use Rattle.std.proofs.lemmas.Bool.{false≢true}
use Rattle.std.proofs.lemmas.Bool.Decides.{nat_tests}
use Rattle.std.proofs.lemmas.Option.{same_Some}
use Rattle.arrayvec.specs.ArrayVec.{ArrayVec}
use Rattle.ckr_desk_plans.specs.Model.Cause.{Cause}
use Rattle.ckr_desk_plans.specs.Model.Refusal.{Refusal}
use Rattle.ckr_desk_plans.specs.Model.Allocation.{Allocation}
use Rattle.ckr_base.specs.declared.code.Code.{Code}
use Rattle.ckr_base.specs.declared.programs.NextDue.{NextDue}
use Rattle.ckr_base.specs.declared.programs.NextDue.TheVariants.{Finished}
use Rattle.ckr_base.proofs.Bools.{if-then}
use Rattle.ckr_base.proofs.Numbers.{equal-true}
use Rattle.ckr_base.proofs.Options.{some-not-none}
use Rattle.ckr_base.proofs.Sequences.{find-passes, get-some}
use Rattle.ckr_events.specs.declared.event.Event.{Event}
use Rattle.ckr_events.specs.declared.event.Event.TheVariants.{Started as StartedEvent, Ended as EndedEvent}
use Rattle.ckr_events.specs.declared.event.Ending.TheVariants.{Completed as CompletedEnding, Allocation as AllocationEnding}
use Rattle.ckr_events.specs.declared.event.Made.{Made}
use Rattle.ckr_jcl.specs.declared.deck.Dd.{Dd}
use Rattle.ckr_library.specs.NameMaps.{Name}
use Rattle.ckr_meaning.specs.EffectiveJob.{OwnedStep, stamp_of}
use Rattle.ckr_meaning.specs.declared.place.Place.{Place}
use Rattle.ckr_meaning.specs.declared.place.Place.TheVariants.{Before, Opened, Within}
use Rattle.ckr_points.specs.Follows.{is_within as is_within_step, own_step}
use Rattle.ckr_points.specs.Restart.{place_of, step_in}
use Rattle.ckr_points.specs.Rows.{RunRow, TablesModel, holding_of, run_of, standing_of, step_of_run, table_ways}
use Rattle.ckr_queue.specs.declared.entry.QueueEntry.{QueueEntry}
use Rattle.ckr_queue.specs.declared.entry.Selection.TheVariants as Selected
use Rattle.ckr_queue.specs.Queue.{selection_of}
use Rattle.ckr_desk_plans.specs.Model.Units.{due_of}
use Rattle.ckr_desk_turn.specs.DeckLimits.{FitsAllocation}
use Rattle.ckr_desk_turn.proofs.Decks.AllocationNeeds.{all_fit}
use Rattle.ckr_points_tables.specs.Model.RunTable.{RunTable}
use Rattle.ckr_points_tables.specs.Allocation.{IsAllocation, MayAllocate, allocation_in}
use Rattle.ckr_points_tables.specs.View.{run_on, seen_by}
use Rattle.ckr_desk_turn.specs.declared.plan.Plan.{Plan}
use Rattle.ckr_desk_turn.specs.declared.plan.Plan.TheVariants.{Rest, Tell}
use Rattle.ckr_points.specs.declared.reply.How.TheVariants.{Completed, Allocation as AllocationHow}
use Rattle.ckr_points.specs.declared.reply.Reply.TheVariants.{Idle, NothingToFail, Started, JobEnded}
use Rattle.ckr_desk_turn.specs.Allocation.{allocation_of, cause_numbers, items_in}
use Rattle.ckr_desk_turn.specs.Select.{is_on, next_run, run_on_initiator}
use Rattle.ckr_desk_turn.specs.Codes.{code_plan, initiator_of, reached_by}
use Rattle.ckr_desk_turn.specs.Deferred.{queued_plan}
use Rattle.ckr_desk_turn.specs.Invariant.{is_off}
use Rattle.ckr_desk_turn.specs.Jobs.{TurnJobs, TurnStep, is_failed, running_in, waiting_code}
use Rattle.ckr_desk_turn.specs.Plans.{allocation_ended, between_plan, chosen_plan, due_plan, fail_plan, finished_plan, free_plan, is_within, placed_plan, run_plan, running_plan, system_failure, unmarked_plan, waiting_plan}
use Rattle.ckr_desk_turn.specs.Queue.{AreNumbered, queue_of, selection_for}
use Rattle.ckr_desk_turn.proofs.Queue.Select.{selection_is_next}
use Rattle.ckr_desk_turn.proofs.RunEnd.{refused-inside}
use Rattle.ckr_volumes.specs.declared.layout.Layout.{Layout}
use Rattle.ckr_desk_memory.specs.Invariant.{IsAcceptedRow, IsAnyPlaceOf, IsPlacedRow}
use Rattle.ckr_desk_memory.specs.Plans.{next_step, row_for, IsKnown, NeedsRoom}
use Rattle.ckr_desk_memory.specs.View.{JobsView, RunningStepView, jobs_of, lengths_of_row}
use Rattle.ckr_desk_memory.proofs.Starts.Steps.{row-among, step-among}
use Rattle.ckr_desk_memory.proofs.FoundRuns.{found-run, known-by, known-is, known-row, lengths-known, running-found, working-is, working_of}

-- the number of a run that is known
pub number-known : (tables : TablesModel) (job : ℕ) (table : RunTable) (known : IsKnown tables job table) (row : RunRow) → run_of tables job ≡ Some row → row.number ≡ job
number-known tables job table known row at = ap (λ (r : RunRow). r.number) (sym (known-row tables job table known row at)) ∙ known.numbered

-- a run's mark, by its number
pub marked-at : (jobs : JobsView) (job : ℕ) (table : RunTable) (known : IsKnown jobs.tables.desk job table) (row : RunRow) → run_of jobs.tables.desk job ≡ Some row → is_failed (jobs_of jobs) job ≡ is_failed (jobs_of jobs) row.number
marked-at jobs job table known row at = ap (is_failed (jobs_of jobs)) (sym (number-known jobs.tables.desk job table known row at))

-- the code with which it waits
pub waiting-at : (jobs : JobsView) (job : ℕ) (table : RunTable) (known : IsKnown jobs.tables.desk job table) (row : RunRow) → run_of jobs.tables.desk job ≡ Some row → waiting_code (jobs_of jobs) job ≡ waiting_code (jobs_of jobs) row.number
waiting-at jobs job table known row at = ap (waiting_code (jobs_of jobs)) (sym (number-known jobs.tables.desk job table known row at))

-- ---- which step is next

pub next-is : (marked : Bool) (waits fail : Option Code) (place other : Place) → marked ≡ false → is_some waits ≡ false → is_some fail ≡ false → place ≡ other → next_step marked waits fail place ≡ next_step false None None other
next-is true waits fail place other marked idle none same = absurd (false≢true (sym marked))
next-is false (Some code) fail place other marked idle none same = absurd (false≢true (sym idle))
next-is false None (Some code) place other marked idle none same = absurd (false≢true (sym none))
next-is false None None place other marked idle none same = ap (next_step false None None) same

pub next-failed : (marked : Bool) (waits fail : Option Code) (place : Place) → marked ≡ true → None ≡ next_step marked waits fail place
next-failed true waits fail place marked = refl
next-failed false waits fail place marked = absurd (false≢true marked)

pub next-waiting : (marked : Bool) (waits fail : Option Code) (place : Place) → is_some waits ≡ true → None ≡ next_step marked waits fail place
next-waiting true waits fail place some = refl
next-waiting false (Some code) fail place some = refl
next-waiting false None fail place some = absurd (false≢true some)

pub next-coded : (marked : Bool) (waits fail : Option Code) (place : Place) → is_some fail ≡ true → None ≡ next_step marked waits fail place
next-coded true waits fail place some = refl
next-coded false (Some code) fail place some = refl
next-coded false None (Some code) place some = refl
next-coded false None None place some = absurd (false≢true some)

module _ (layout : Layout) (jobs : TurnJobs) (row : RunRow) where
  abbrev if_failed : Option Code → Option Code → Bool → Plan
  if_failed fail waits failed =
      elim failed [
        | true ↦ code_plan layout jobs.tables row (initiator_of row) true system_failure (reached_by jobs row)
        | false ↦ unmarked_plan layout jobs row fail waits
      ]

  pub run-failed : (fail : Option Code) → is_failed jobs row.number ≡ true → run_plan layout jobs fail row ≡ code_plan layout jobs.tables row (initiator_of row) true system_failure (reached_by jobs row)
  run-failed fail failed = ap (if_failed fail (waiting_code jobs row.number)) failed

  run-unmarked : (fail waits : Option Code) → is_failed jobs row.number ≡ false → waiting_code jobs row.number ≡ waits → run_plan layout jobs fail row ≡ unmarked_plan layout jobs row fail waits
  run-unmarked fail waits failed is = ap (if_failed fail (waiting_code jobs row.number)) failed ∙ ap (unmarked_plan layout jobs row fail) is

  -- a run that waits with a code, and one that doesn't
  pub run-waiting : (fail : Option Code) (code : Code) → is_failed jobs row.number ≡ false → waiting_code jobs row.number ≡ Some code → run_plan layout jobs fail row ≡ waiting_plan layout jobs row code fail
  run-waiting fail code failed waits = run-unmarked fail (Some code) failed waits

  pub run-other : (fail : Option Code) → is_failed jobs row.number ≡ false → waiting_code jobs row.number ≡ None → run_plan layout jobs fail row ≡ fail_plan layout jobs row fail
  run-other fail failed waits = run-unmarked fail None failed waits

  abbrev if_within : Code → Bool → Plan
  if_within code within =
      elim within [
        | true ↦ code_plan layout jobs.tables row (initiator_of row) true code (reached_by jobs row)
        | false ↦ Rest NothingToFail
      ]

  pub fail-within : (code : Code) → is_within (place_of row) ≡ true → fail_plan layout jobs row (Some code) ≡ code_plan layout jobs.tables row (initiator_of row) true code (reached_by jobs row)
  fail-within code within = ap (if_within code) within

  pub fail-between : (code : Code) → is_within (place_of row) ≡ false → fail_plan layout jobs row (Some code) ≡ Rest NothingToFail
  fail-between code within = ap (if_within code) within

  pub placed-within : (place : Place) → next_step false None None place ≡ None → placed_plan layout jobs row place ≡ option_map_or (running_plan row (step_in place)) (running_in jobs row.number) (Rest Idle)
  placed-within (Before number) none = absurd (some-not-none number none)
  placed-within (Opened number) none = absurd (some-not-none number none)
  placed-within (Within number writes) none = refl

  placed-between : (place : Place) (number : ℕ) → next_step false None None place ≡ Some number → placed_plan layout jobs row place ≡ between_plan layout jobs row number
  placed-between (Before other) number next = ap (between_plan layout jobs row) (same_Some _ _ next)
  placed-between (Opened other) number next = ap (between_plan layout jobs row) (same_Some _ _ next)
  placed-between (Within other writes) number next = absurd (some-not-none number (sym next))

  -- a run that is to start a step
  pub run-between : (fail : Option Code) (number : ℕ) → next_step (is_failed jobs row.number) (waiting_code jobs row.number) fail (place_of row) ≡ Some number → run_plan layout jobs fail row ≡ between_plan layout jobs row number
  run-between fail number next = by (is_failed jobs row.number) (waiting_code jobs row.number) fail next
    where
      by : (failed : Bool) (waits fail : Option Code) → next_step failed waits fail (place_of row) ≡ Some number → if_failed fail waits failed ≡ between_plan layout jobs row number
      by true waits fail is = absurd (some-not-none number (sym is))
      by false (Some code) fail is = absurd (some-not-none number (sym is))
      by false None (Some code) is = absurd (some-not-none number (sym is))
      by false None None is = placed-between (place_of row) number is

-- what becomes of a run on its initiator with a code, by what the tables keep of it
pub code-known : (layout : Layout) (jobs : JobsView) (job : ℕ) (table : RunTable) → IsKnown jobs.tables.desk job table → (initiator : ℕ) (lodged : Bool) (code : Code) (row : RunRow) → run_of jobs.tables.desk job ≡ Some row → initiator_of row ≡ initiator → lodged ≡ true
    → code_plan layout jobs.tables.desk (row_for job table) initiator lodged code (reached_by (jobs_of jobs) (row_for job table)) ≡ code_plan layout jobs.tables.desk row (initiator_of row) true code (reached_by (jobs_of jobs) row)
code-known layout jobs job table known initiator lodged code row at on seated =
    sym (known-by jobs.tables.desk job table known (λ r. code_plan layout jobs.tables.desk r initiator lodged code (reached_by (jobs_of jobs) r)) refl row at)
    ∙ ap (λ i. code_plan layout jobs.tables.desk row i lodged code (reached_by (jobs_of jobs) row)) (sym on)
    ∙ ap (λ b. code_plan layout jobs.tables.desk row (initiator_of row) b code (reached_by (jobs_of jobs) row)) seated

-- ---- within a step

-- a run within a step has that step
pub within-there : (row : RunRow) → IsPlacedRow row → next_step false None None (place_of row) ≡ None → IsSome (own_step row)
within-there row placed none = by row.place placed.place none
  where
    by : (place : Option Place) → IsAnyPlaceOf row.job place → next_step false None None (option_map_or (λ one. one) place (Before 1)) ≡ None → IsSome (step_of_run row (step_in (option_map_or (λ one. one) place (Before 1))))
    by None is none = absurd (some-not-none 1 none)
    by (Some (Before number)) is none = absurd (some-not-none number none)
    by (Some (Opened number)) is none = absurd (some-not-none number none)
    by (Some (Within number writes)) is none = is

pub known-there : (tables : TablesModel) (run : ℕ) (table : RunTable) (known : IsKnown tables run table) → AllByRecursion IsPlacedRow tables.runs → next_step false None None (place_of known.row) ≡ None → IsSome (own_step (row_for run table))
known-there tables run table known placed none =
    subst IsSome (known-is tables run table known own_step refl) (within-there known.row (row-among IsPlacedRow tables run known.row placed known.found) none)

module _ (jobs : JobsView) (run : ℕ) (table : RunTable) (known : IsKnown jobs.tables.desk run table) (number : ℕ) where
  abbrev pub within_plan : Option TurnStep → Plan
  within_plan step = option_map_or (running_plan (row_for run table) number) step (Rest Idle)

  pub within-none : None ≡ find (λ (on : RunningStepView). on.run == run) jobs.running → Rest Idle ≡ within_plan (running_in (jobs_of jobs) run)
  within-none found = ap within_plan (sym (running-found jobs run None found))

  -- what is due of its running step, where it waits with no code
  pub within-due : (on : RunningStepView) (due : NextDue) → Some on ≡ find (λ (step : RunningStepView). step.run == run) jobs.running → on.code ≡ None → due ≡ due_of on.step.parm on.step.state
      → due_plan (row_for run table) number (working_of jobs.tables.desk on) due ≡ within_plan (running_in (jobs_of jobs) run)
  within-due on due found uncoded is =
      ap (due_plan (row_for run table) number (working_of jobs.tables.desk on)) is
      ∙ ap (running_plan (row_for run table) number) (sym (working-is jobs.tables.desk on uncoded))
      ∙ ap within_plan (sym (running-found jobs run (Some on) found))

  pub within-ends : (on : RunningStepView) → on.run ≡ run → Some on ≡ find (λ (step : RunningStepView). step.run == run) jobs.running → on.code ≡ None → (rc : ℕ) → Finished rc ≡ due_of on.step.parm on.step.state
      → finished_plan (row_for run table) number (record (working_of jobs.tables.desk on) { lengths = lengths_of_row on.sets.sets (row_for run table) }) rc ≡ within_plan (running_in (jobs_of jobs) run)
  within-ends on is found uncoded rc due =
      ap (λ (ls : List ℕ). finished_plan (row_for run table) number (record (working_of jobs.tables.desk on) { lengths = ls }) rc) (sym (lengths-known jobs.tables.desk run table known on is))
      ∙ within-due on (Finished rc) found uncoded due

-- ---- between steps

-- the name of a step that is there
pub named-step : (found : Option OwnedStep) (name : Name) → Some name ≡ option_map (λ (own : OwnedStep). own.step.name) found → (own : OwnedStep) × (found ≡ Some own) × (name ≡ own.step.name)
named-step None name is = absurd (some-not-none name is)
named-step (Some own) name is = (own, refl, same_Some _ _ is)

pub no-step : (found : Option OwnedStep) → None ≡ option_map (λ (own : OwnedStep). own.step.name) found → found ≡ None
no-step None is = refl
no-step (Some own) is = absurd (some-not-none own.step.name (sym is))

-- the DDs of an accepted deck fit
pub may-allocate : (tables : TablesModel) → AllByRecursion IsAcceptedRow tables.runs → (job number : ℕ) → MayAllocate job number tables
may-allocate tables rows job number = λ row owned at step.
    let accepted = row-among IsAcceptedRow tables job row rows at in
    let its = accepted.steps number owned step in
    step-among FitsAllocation owned.owner its.deck number owned (all_fit its.cards its.deck its.accepted) its.owned_so row.job.root owned.owner

items-made : (result : Result Allocation Refusal) (made : ArrayVec Made) → IsAllocation result (Ok made) → items_in result ≡ Ok made.items
items-made (Ok done) made is = ap (λ (items : List Made). let r : Result (List Made) Refusal = Ok items in r) (sym is)
items-made (Err refusal) made is = absurd is

items-refused : (result : Result Allocation Refusal) (refusal : Refusal) → IsAllocation result (Err refusal) → items_in result ≡ Err refusal
items-refused (Ok done) refusal is = absurd is
items-refused (Err other) refusal is = ap (λ (one : Refusal). let r : Result (List Made) Refusal = Err one in r) (sym is)

module _ (layout : Layout) (jobs : TurnJobs) (row : RunRow) (number : ℕ) where
  abbrev if_allocated : OwnedStep → Result (List Made) Refusal → Plan
  if_allocated owned items =
      elim items [
        | Err refusal ↦ allocation_ended row owned refusal.dd refusal.cause
        | Ok items ↦ Tell (Started row.number owned.step.name) (StartedEvent row.number number (record { items = items }))
      ]

  abbrev if_step : Option OwnedStep → Plan
  if_step found =
      elim found [
        | None ↦ Tell (JobEnded row.number Completed) (EndedEvent row.number CompletedEnding)
        | Some owned ↦ if_allocated owned (items_in (allocation_in layout row owned number jobs.tables))
      ]

  pub between-ended : step_of_run row number ≡ None → between_plan layout jobs row number ≡ Tell (JobEnded row.number Completed) (EndedEvent row.number CompletedEnding)
  between-ended none = ap if_step none

  pub between-started : (owned : OwnedStep) (made : ArrayVec Made) → step_of_run row number ≡ Some owned → IsAllocation (allocation_in layout row owned number jobs.tables) (Ok made)
      → between_plan layout jobs row number ≡ Tell (Started row.number owned.step.name) (StartedEvent row.number number made)
  between-started owned made some is = ap if_step some ∙ ap (if_allocated owned) (items-made (allocation_in layout row owned number jobs.tables) made is)

  pub between-refused : (owned : OwnedStep) (refusal : Refusal) → step_of_run row number ≡ Some owned → IsAllocation (allocation_in layout row owned number jobs.tables) (Err refusal)
      → between_plan layout jobs row number ≡ allocation_ended row owned refusal.dd refusal.cause
  between-refused owned refusal some is = ap if_step some ∙ ap (if_allocated owned) (items-refused (allocation_in layout row owned number jobs.tables) refusal is)

pub numbered-there : {A : Type 0} (items : List A) (number : ℕ) → 1 ≤ number → number ≤ length items → IsSome (slice_get items (pred number))
numbered-there items zero first last = absurd (omega (arith, first))
numbered-there items (suc place) first last = get-some items place (omega (arith, last))

refusal_is : (result : Result Allocation Refusal) (refusal : Refusal) → IsAllocation result (Err refusal) → result ≡ Err refusal
refusal_is (Ok done) refusal is = absurd is
refusal_is (Err other) refusal is = ap (λ (one : Refusal). let r : Result Allocation Refusal = Err one in r) (sym is)

-- the DD that isn't allocated is one of the step
pub refused-there : (layout : Layout) (row : RunRow) (owned : OwnedStep) (number : ℕ) (tables : TablesModel) (refusal : Refusal) → IsAllocation (allocation_in layout row owned number tables) (Err refusal)
    → IsSome (slice_get owned.step.dds (pred refusal.dd))
refused-there layout row owned number tables refusal is =
    let inside =
    refused-inside table_ways (standing_of row tables) layout (stamp_of owned number) row.job.root owned (seen_by holding_of tables.sets) refusal
    (refusal_is (allocation_in layout row owned number tables) refusal is) in
    numbered-there owned.step.dds refusal.dd inside.0 inside.1

-- what is there has a view
pub viewed-none : {A B : Type 0} (view : A → B) (found : Option A) → IsSome found → None ≡ option_map view found → ⊥
viewed-none view None there is = false≢true there
viewed-none view (Some x) there is = some-not-none (view x) (sym is)

dd-named : (found : Option Dd) (name : Name) → Some name ≡ option_map (λ (one : Dd). one.name) found → name ≡ option_map_or (λ (one : Dd). one.name) found []
dd-named None name is = absurd (some-not-none name is)
dd-named (Some one) name is = same_Some _ _ is

pub refused-is : (row : RunRow) (own : OwnedStep) (dd : ℕ) (cause : Cause) (job : ℕ) (name dd_name : Name) (event : Event) → row.number ≡ job → name ≡ own.step.name
    → Some dd_name ≡ option_map (λ (one : Dd). one.name) (slice_get own.step.dds (pred dd))
    → event ≡ EndedEvent job (AllocationEnding dd (cause_numbers cause).0 (cause_numbers cause).1 (cause_numbers cause).2)
    → Tell (JobEnded job (AllocationHow name dd_name cause)) event ≡ allocation_ended row own dd cause
refused-is row own dd cause job name dd_name event number is dd_is event_is =
    ap (λ n. Tell (JobEnded job (AllocationHow n dd_name cause)) event) is
    ∙ ap (λ n. Tell (JobEnded job (AllocationHow own.step.name n cause)) event) (dd-named (slice_get own.step.dds (pred dd)) dd_name dd_is)
    ∙ ap (Tell (JobEnded job (AllocationHow own.step.name (option_map_or (λ (one : Dd). one.name) (slice_get own.step.dds (pred dd)) []) cause))) event_is
    ∙ ap (λ n. Tell (JobEnded n (AllocationHow own.step.name (option_map_or (λ (one : Dd). one.name) (slice_get own.step.dds (pred dd)) []) cause)) (EndedEvent n (AllocationEnding dd (cause_numbers cause).0 (cause_numbers cause).1 (cause_numbers cause).2))) (sym number)

-- ---- a run that comes to an initiator

none-next : (found : Option RunRow) → Selected.Idle ≡ selection_for found → found ≡ None
none-next None is = refl
none-next (Some row) is = cc

one-next : (found : Option RunRow) (job : ℕ) → Selected.Job job ≡ selection_for found → (row : RunRow) × (found ≡ Some row) × (row.number ≡ job)
one-next None job is = cc
one-next (Some row) job is = (row, refl, cc)

module _ (tables : TablesModel) (entries : List QueueEntry) (same : entries ≡ queue_of tables) where
  pub next-none : Selected.Idle ≡ selection_of entries → next_run tables ≡ None
  next-none is = none-next (next_run tables) (is ∙ ap selection_of same ∙ selection_is_next tables)

  pub next-one : AreNumbered 1 tables.runs → (job : ℕ) → Selected.Job job ≡ selection_of entries → (row : RunRow) × (next_run tables ≡ Some row) × (run_of tables job ≡ Some row)
  next-one numbered job is =
      let one = one-next (next_run tables) job (is ∙ ap selection_of same ∙ selection_is_next tables) in
      (one.0, one.1, ap (run_of tables) (sym one.2) ∙ found-run tables _ one.0 numbered one.1)

module _ (layout : Layout) (jobs : TurnJobs) (initiator : ℕ) where
  pub free-idle : (fail : Option Code) → is_some fail ≡ false → next_run jobs.tables ≡ None → free_plan layout jobs initiator fail ≡ Rest Idle
  free-idle (Some code) none next = absurd (false≢true (sym none))
  free-idle None none next = ap (λ found. option_map_or (chosen_plan layout jobs initiator) found (Rest Idle)) next

  pub free-chosen : (fail : Option Code) → is_some fail ≡ false → (row : RunRow) → next_run jobs.tables ≡ Some row → free_plan layout jobs initiator fail ≡ chosen_plan layout jobs initiator row
  free-chosen (Some code) none row next = absurd (false≢true (sym none))
  free-chosen None none row next = ap (λ found. option_map_or (chosen_plan layout jobs initiator) found (Rest Idle)) next

-- the code of a run, by what the tables keep of it
pub code-kept : (tables : TablesModel) (job : ℕ) (table : RunTable) (known : IsKnown tables job table) (row : RunRow) → run_of tables job ≡ Some row → row.code ≡ table.code
code-kept tables job table known row at = known-by tables job table known (λ (r : RunRow). r.code) refl row at

module _ (layout : Layout) (jobs : JobsView) (initiator job : ℕ) (table : RunTable) (known : IsKnown jobs.tables.desk job table) (row : RunRow) (at : run_of jobs.tables.desk job ≡ Some row) where
  abbrev if_coded : Option Code → Plan
  if_coded code =
      elim code [
        | None ↦ queued_plan layout jobs.tables.desk initiator row row.deck.restart
        | Some code ↦ code_plan layout jobs.tables.desk row initiator false code (reached_by (jobs_of jobs) row)
      ]

  -- it is taken up where it has none, and goes on with it else
  pub chosen-queued : None ≡ table.code → queued_plan layout jobs.tables.desk initiator row row.deck.restart ≡ chosen_plan layout (jobs_of jobs) initiator row
  unfolding jobs_of
  chosen-queued none = ap if_coded (none ∙ sym (code-kept jobs.tables.desk job table known row at))

  pub chosen-coded : (code : Code) → Some code ≡ table.code → code_plan layout jobs.tables.desk (row_for job table) initiator false code (reached_by (jobs_of jobs) (row_for job table)) ≡ chosen_plan layout (jobs_of jobs) initiator row
  unfolding jobs_of
  chosen-coded code some =
      sym (known-by jobs.tables.desk job table known (λ r. code_plan layout jobs.tables.desk r initiator false code (reached_by (jobs_of jobs) r)) refl row at)
      ∙ ap if_coded (some ∙ sym (code-kept jobs.tables.desk job table known row at))

-- a run with a code is within a step that it has
pub coded-there : (row : RunRow) → IsPlacedRow row → is_some row.code ≡ true → IsSome (own_step row)
coded-there row placed some =
    within-there row placed (between (place_of row) (if-then (is_off row.state) (is_within_step (place_of row)) placed.off (off (is_off row.state) placed.code)))
  where
    off : (b : Bool) → (if b then is_some row.code else is_none row.code) ≡ true → b ≡ true
    off true is = refl
    off false is = absurd (none (row.code) some is)
      where
        none : (code : Option Code) → is_some code ≡ true → is_none code ≡ true → ⊥
        none None some is = false≢true some
        none (Some code) some is = false≢true is

    between : (place : Place) → is_within_step place ≡ true → next_step false None None place ≡ None
    between (Before number) is = absurd (false≢true is)
    between (Opened number) is = absurd (false≢true is)
    between (Within number writes) is = refl

-- ---- the run on an initiator

same_tests : (a b : ℕ) → nat_eq a b ≡ (b == a)
same_tests a b =
    elim (b == a) as (λ t. (b == a) ≡ t → nat_eq a b ≡ t) [
      | true ↦ λ e. yes a b e
      | false ↦ λ e. no a b e
    ] refl
  where
    yes : (a b : ℕ) → (b == a) ≡ true → nat_eq a b ≡ true
    yes a b e = grind (arith, nat_tests)

    no : (a b : ℕ) → (b == a) ≡ false → nat_eq a b ≡ false
    no a b e = grind (arith, nat_tests)

same-on : (initiator : ℕ) (found : Option ℕ) → option_eq nat_eq found (Some initiator) ≡ is_on initiator found
same-on initiator None = refl
same-on initiator (Some other) = same_tests other initiator

on-same : (initiator : ℕ) (rows : List RunRow) → find (λ (row : RunRow). option_eq nat_eq row.initiator (Some initiator)) rows ≡ find (λ (row : RunRow). is_on initiator row.initiator) rows
on-same initiator [] = refl
on-same initiator (row ∷ rows) =
    ap (λ b. cond b (Some row) (find (λ (row : RunRow). option_eq nat_eq row.initiator (Some initiator)) rows)) (same-on initiator row.initiator)
    ∙ ap (cond (is_on initiator row.initiator) (Some row)) (on-same initiator rows)

numbered-one : (found : Option RunRow) (job : ℕ) → Some job ≡ option_map (λ (row : RunRow). row.number) found → (row : RunRow) × (found ≡ Some row) × (row.number ≡ job)
numbered-one None job is = absurd (some-not-none job is)
numbered-one (Some row) job is = (row, refl, sym (same_Some _ _ is))

none-numbered : (found : Option RunRow) → None ≡ option_map (λ (row : RunRow). row.number) found → found ≡ None
none-numbered None is = refl
none-numbered (Some row) is = absurd (some-not-none row.number (sym is))

pub on-run : (tables : TablesModel) → AreNumbered 1 tables.runs → (initiator job : ℕ) → Some job ≡ run_on initiator tables → (row : RunRow) × (run_on_initiator tables initiator ≡ Some row) × (run_of tables job ≡ Some row)
on-run tables numbered initiator job is =
    let one = numbered-one (run_on_initiator tables initiator) job (is ∙ ap (option_map (λ (row : RunRow). row.number)) (on-same initiator tables.runs)) in
    (one.0, one.1, ap (run_of tables) (sym one.2) ∙ found-run tables _ one.0 numbered one.1)

seat_is : (initiator : ℕ) (seat : Option ℕ) → is_on initiator seat ≡ true → option_map_or (λ initiator. initiator) seat 0 ≡ initiator
seat_is initiator None on = absurd (false≢true on)
seat_is initiator (Some other) on = sym (equal-true initiator other on)

-- the run on an initiator has it
pub on-its : (tables : TablesModel) (initiator : ℕ) (row : RunRow) → run_on_initiator tables initiator ≡ Some row → initiator_of row ≡ initiator
on-its tables initiator row found = seat_is initiator row.initiator (find-passes (λ (one : RunRow). is_on initiator one.initiator) tables.runs row found)

pub on-none : (tables : TablesModel) (initiator : ℕ) → None ≡ run_on initiator tables → run_on_initiator tables initiator ≡ None
on-none tables initiator is = none-numbered (run_on_initiator tables initiator) (is ∙ ap (option_map (λ (row : RunRow). row.number)) (on-same initiator tables.runs))

-- ---- what needs memory

either-needs : (r : Result (List Made) Refusal) (f : Refusal → Plan) (g : List Made → Plan) → ((x : Refusal) → NeedsRoom (f x)) → ((x : List Made) → NeedsRoom (g x))
    → NeedsRoom (elim r as (λ _. Plan) [ Err refusal ↦ f refusal | Ok items ↦ g items ])
either-needs (Err refusal) f g first second = first refusal
either-needs (Ok items) f g first second = second items

some-needs : (o : Option OwnedStep) (none : Plan) (f : OwnedStep → Plan) → NeedsRoom none → ((x : OwnedStep) → NeedsRoom (f x)) → NeedsRoom (elim o as (λ _. Plan) [ None ↦ none | Some x ↦ f x ])
some-needs None none f first second = first
some-needs (Some x) none f first second = second x

-- the turn of a run that is between two steps always does
pub between-needs : (layout : Layout) (jobs : TurnJobs) (row : RunRow) (number : ℕ) → NeedsRoom (between_plan layout jobs row number)
between-needs layout jobs row number =
    some-needs (step_of_run row number) _ _ refl (λ owned. either-needs (allocation_of layout row owned number jobs.tables) _ _ (λ refusal. refl) (λ items. refl))

-- so it does where there is no memory
pub if-needs : {T E : Type 0} (result : Result T E) (plan : Plan) → NeedsRoom plan → IfErr result (λ _. NeedsRoom plan)
if-needs (Ok x) plan needs = tt
if-needs (Err error) plan needs = needs
