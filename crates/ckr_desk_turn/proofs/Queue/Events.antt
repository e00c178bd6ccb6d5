-- The queue of the tables' runs behind an event.
use Rattle.std.proofs.Common.{◌≡◌, ◌+◌, ℕ, zero, suc, true, List, [], ◌∷◌, refl, ap, sym, ◌∙◌, Option, None, Some, arith, slice_get, slice_set}
use Rattle.std.proofs.lemmas.Option.{same_Some}
use Rattle.std.specs.List.{filter_map}
use Rattle.std.specs.Option.{option_map_or}
use Rattle.arrayvec.specs.ArrayVec.{ArrayVec}
use Rattle.ckr_events.specs.declared.event.Made.{Made}
use Rattle.ckr_events.specs.declared.event.Event.TheVariants.{Denied as DeniedEvent, Selected as SelectedEvent, Started as StartedEvent, Rewritten as RewrittenEvent, StepEnded as StepEndedEvent, Ended as EndedEvent, Purged as PurgedEvent}
use Rattle.ckr_events.specs.declared.event.Ending.TheVariants.{Completed, Coded, Allocation}
use Rattle.ckr_base.specs.declared.code.Code.{Code}
use Rattle.ckr_points_invariant.specs.EarlierRuns.{IsEntryOf, MayContinue}
use Rattle.ckr_base.proofs.Numbers.{one-plus}
use Rattle.ckr_meaning.specs.EffectiveJob.{OwnedStep}
use Rattle.ckr_jcl.specs.declared.deck.Job.{Job}
use Rattle.ckr_library.specs.NameMaps.{Name}
use Rattle.ckr_points_invariant.proofs.Continuations.Follows.{after-selected}
use Rattle.ckr_points_invariant.proofs.Holders.Rows.{queued-is}
use Rattle.ckr_volumes.specs.declared.layout.Layout.{Layout}
use Rattle.ckr_queue.specs.declared.entry.QueueEntry.{QueueEntry}
use Rattle.ckr_queue.specs.declared.entry.QueueState.{QueueState}
use Rattle.ckr_queue.specs.declared.entry.QueueState.TheVariants as InQueue
use Rattle.ckr_queue.specs.Queue.{with_state, without}
use Rattle.ckr_meaning.specs.declared.place.Place.TheVariants.{Before, Opened, Within}
use Rattle.ckr_points.specs.declared.run.RunState.TheVariants.{Denied as DeniedRun, Queued, On, Purged as PurgedRun}
use Rattle.ckr_points.specs.Tables.{after_selected, after_started, after_commit, after_rewritten, after_step_ended, after_dispositions}
use Rattle.ckr_points.specs.Restart.{after_abnormal, after_coded, after_continued_at, after_entry_continued, after_event, after_passed_ended, by_step, continued_row, kept_at, place_of, step_in, syschk_name}
use Rattle.ckr_points.specs.Rows.{KeptEntry, RunRow, TablesModel, run_of, step_of_run, with_row, with_run}
use Rattle.ckr_desk_turn.specs.Queue.{entry_of, queue_of, queue_state, AreNumbered}
use Rattle.ckr_desk_turn.proofs.Queue.Changes.{moved, left, stayed}

-- a run at its place has the number of it
pub number_at : (rows : List RunRow) (from place : ℕ) (row : RunRow) → AreNumbered from rows → slice_get rows place ≡ Some row → row.number ≡ from + place
number_at [] from place row numbered at = cc
number_at (first ∷ rows) from zero row numbered at = ap (λ (r : RunRow). r.number) (sym (same_Some _ _ at)) ∙ numbered.0 ∙ omega arith
number_at (first ∷ rows) from (suc place) row numbered at = number_at rows (suc from) place row numbered.1 at ∙ omega arith

pub run_number : (tables : TablesModel) (job : ℕ) (row : RunRow) → AreNumbered 1 tables.runs → run_of tables job ≡ Some row → row.number ≡ job
run_number tables zero row numbered at = cc
run_number tables (suc place) row numbered at = number_at tables.runs 1 place row numbered at ∙ one-plus place

set_twice : (rows : List RunRow) (place : ℕ) (one two : RunRow) → slice_set (slice_set rows place one) place two ≡ slice_set rows place two
set_twice [] place one two = refl
set_twice (first ∷ rows) zero one two = refl
set_twice (first ∷ rows) (suc place) one two = ap (λ rest. first ∷ rest) (set_twice rows place one two)

-- of a run that is put into its row twice the later one stands
pub row_twice : (rows : List RunRow) (number : ℕ) (one two : RunRow) → with_row two number (with_row one number rows) ≡ with_row two number rows
row_twice rows zero one two = refl
row_twice rows (suc place) one two = set_twice rows place one two

abbrev pub queue_in : List RunRow → List QueueEntry
queue_in rows = filter_map entry_of rows

-- ---- a run changes its row

pub kept_state : (tables : TablesModel) (job : ℕ) (row new : RunRow) → run_of tables job ≡ Some row → new.number ≡ row.number → new.deck ≡ row.deck → queue_state new.state ≡ queue_state row.state
    → queue_in (with_row new job tables.runs) ≡ queue_of tables
kept_state tables zero row new at number deck is = refl
kept_state tables (suc place) row new at number deck is = stayed tables.runs place row new at number deck is

pub new_state : (tables : TablesModel) (job : ℕ) (row new : RunRow) (before to : QueueState) → AreNumbered 1 tables.runs → run_of tables job ≡ Some row → new.number ≡ row.number → new.deck ≡ row.deck
    → queue_state row.state ≡ Some before → queue_state new.state ≡ Some to → queue_in (with_row new job tables.runs) ≡ with_state job to (queue_of tables)
new_state tables zero row new before to numbered at number deck was is = cc
new_state tables (suc place) row new before to numbered at number deck was is =
    moved tables.runs 1 place row new before to numbered at number deck was is ∙ ap (λ n. with_state n to (queue_of tables)) (one-plus place)

pub no_state : (tables : TablesModel) (job : ℕ) (row new : RunRow) (before : QueueState) → AreNumbered 1 tables.runs → run_of tables job ≡ Some row
    → queue_state row.state ≡ Some before → queue_state new.state ≡ None → queue_in (with_row new job tables.runs) ≡ without job (queue_of tables)
no_state tables zero row new before numbered at was is = cc
no_state tables (suc place) row new before numbered at was is =
    left tables.runs 1 place row new before numbered at was is ∙ ap (λ n. without n (queue_of tables)) (one-plus place)

-- ---- an event

abbrev behind_by : (RunRow → TablesModel) → TablesModel → Option RunRow → List QueueEntry
behind_by change tables found = queue_of (option_map_or change found tables)

pub selected : (tables : TablesModel) (job initiator step : ℕ) (id : Option (List ℕ)) (deck : Option Job) (row : RunRow) → AreNumbered 1 tables.runs → run_of tables job ≡ Some row → row.state ≡ Queued
    → queue_of (after_event (SelectedEvent job initiator 0 step id) deck tables) ≡ with_state job InQueue.Selected (queue_of tables)
selected tables job initiator step id deck row numbered at is =
    ap (behind_by (λ row. after_selected row initiator tables) tables) at
    ∙ ap (λ n. queue_in (with_row on n tables.runs)) (run_number tables job row numbered at)
    ∙ new_state tables job row on InQueue.Queued InQueue.Selected numbered at refl refl (ap queue_state is) refl
  where
    on : RunRow
    on = record row { state = On; initiator = Some initiator; place = Some (Before 1) }

pub purged : (tables : TablesModel) (job : ℕ) (deck : Option Job) (row : RunRow) → AreNumbered 1 tables.runs → run_of tables job ≡ Some row → row.state ≡ Queued
    → queue_of (after_event (PurgedEvent job) deck tables) ≡ without job (queue_of tables)
purged tables job deck row numbered at is =
    ap (behind_by (λ row. with_run (record row { state = PurgedRun }) tables) tables) at
    ∙ ap (λ n. queue_in (with_row gone n tables.runs)) (run_number tables job row numbered at)
    ∙ no_state tables job row gone InQueue.Queued numbered at (ap queue_state is) refl
  where
    gone : RunRow
    gone = record row { state = PurgedRun }

pub denied : (tables : TablesModel) (job rule : ℕ) (name : Option (List ℕ)) (deck : Option Job) (row : RunRow) → AreNumbered 1 tables.runs → run_of tables job ≡ Some row → row.state ≡ Queued
    → queue_of (after_event (DeniedEvent job rule name) deck tables) ≡ without job (queue_of tables)
denied tables job rule name deck row numbered at is =
    ap (behind_by (λ row. with_run (record row { state = DeniedRun }) tables) tables) at
    ∙ ap (λ n. queue_in (with_row gone n tables.runs)) (run_number tables job row numbered at)
    ∙ no_state tables job row gone InQueue.Queued numbered at (ap queue_state is) refl
  where
    gone : RunRow
    gone = record row { state = DeniedRun }

-- a run that is put into its row, and is selected
taken_row : (tables : TablesModel) (job : ℕ) (row new : RunRow) → AreNumbered 1 tables.runs → run_of tables job ≡ Some row → row.state ≡ Queued → new.number ≡ row.number → new.deck ≡ row.deck → new.state ≡ On
    → queue_in (with_row new new.number tables.runs) ≡ with_state job InQueue.Selected (queue_of tables)
taken_row tables job row new numbered at queued number deck on =
    ap (λ n. queue_in (with_row new n tables.runs)) (number ∙ run_number tables job row numbered at)
    ∙ new_state tables job row new InQueue.Queued InQueue.Selected numbered at number deck (ap queue_state queued) (ap queue_state on)

-- a run is selected to continue an earlier one
pub continued : (layout : Layout) (tables : TablesModel) (job initiator before step : ℕ) (id : Option Name) (deck : Option Job) → AreNumbered 1 tables.runs → MayContinue layout tables job initiator (suc before) step id
    → queue_of (after_event (SelectedEvent job initiator (suc before) step id) deck tables) ≡ with_state job InQueue.Selected (queue_of tables)
continued layout tables job initiator before step id deck numbered its =
    ap queue_of (after-selected layout tables job initiator before step id deck its) ∙ by id its
  where
    by : (id : Option Name) (its : MayContinue layout tables job initiator (suc before) step id)
        → queue_of (after_continued_at (continued_row its.row its.other step its.point initiator tables.sets) its.owned step its.point id tables) ≡ with_state job InQueue.Selected (queue_of tables)
    by None its = taken_row tables job its.row _ numbered its.row_at (queued-is its.row.state its.queued) refl refl refl
    by (Some id) its = at-entry (kept_at tables.sets (syschk_name its.row.deck) id) its.entry
      where
        at-entry : (entry : Option KeptEntry) → IsEntryOf its.other step (Some id) entry
            → queue_of (option_map_or (λ entry. after_entry_continued (continued_row its.row its.other step its.point initiator tables.sets) its.owned step (syschk_name its.row.deck) entry tables) entry tables) ≡ with_state job InQueue.Selected (queue_of tables)
        at-entry None of_run = absurd of_run
        at-entry (Some entry) of_run = taken_row tables job its.row _ numbered its.row_at (queued-is its.row.state its.queued) refl refl refl

-- a run that is put into its row, with its state as it was
kept_row : (tables : TablesModel) (job : ℕ) (row new : RunRow) → AreNumbered 1 tables.runs → run_of tables job ≡ Some row → new.number ≡ row.number → new.deck ≡ row.deck → new.state ≡ row.state
    → queue_in (with_row new new.number tables.runs) ≡ queue_of tables
kept_row tables job row new numbered at number deck is =
    ap (λ n. queue_in (with_row new n tables.runs)) (number ∙ run_number tables job row numbered at)
    ∙ kept_state tables job row new at number deck (ap queue_state is)

pub started : (tables : TablesModel) (job step : ℕ) (items : ArrayVec Made) (deck : Option Job) → AreNumbered 1 tables.runs
    → queue_of (after_event (StartedEvent job step items) deck tables) ≡ queue_of tables
started tables job step items deck numbered =
    elim (run_of tables job) as (λ o. run_of tables job ≡ o → behind_by (λ row. option_map_or (λ owned. after_started row owned step items.items tables) (step_of_run row step) tables) tables o ≡ queue_of tables) [
      | None ↦ λ at. refl
      | Some row ↦ λ at.
          elim (step_of_run row step) as (λ s. queue_of (option_map_or (λ owned. after_started row owned step items.items tables) s tables) ≡ queue_of tables) [
            | None ↦ refl
            | Some owned ↦ kept_row tables job row _ numbered at refl refl refl
          ]
    ] refl

pub rewritten : (tables : TablesModel) (job taken writes place : ℕ) (lengths : ArrayVec ℕ) (image : List ℕ) (deck : Option Job) → AreNumbered 1 tables.runs
    → queue_of (after_event (RewrittenEvent job taken writes lengths place image) deck tables) ≡ queue_of tables
rewritten tables job taken writes place lengths image deck numbered =
    elim (run_of tables job) as (λ o. run_of tables job ≡ o → behind_by (λ row. by_step (λ owned step. after_rewritten row owned step writes lengths.items tables) row tables) tables o ≡ queue_of tables) [
      | None ↦ λ at. refl
      | Some row ↦ λ at.
          elim (step_of_run row (step_in (place_of row))) as (λ s. queue_of (option_map_or (λ owned. after_rewritten row owned (step_in (place_of row)) writes lengths.items tables) s tables) ≡ queue_of tables) [
            | None ↦ refl
            | Some owned ↦ kept_row tables job row _ numbered at refl refl refl
          ]
    ] refl

-- of two changes of a run's row the later one stands
kept_twice : (tables : TablesModel) (job : ℕ) (row one two : RunRow) → AreNumbered 1 tables.runs → run_of tables job ≡ Some row → two.number ≡ row.number → one.number ≡ two.number → two.deck ≡ row.deck → two.state ≡ row.state
    → queue_in (with_row two two.number (with_row one one.number tables.runs)) ≡ queue_of tables
kept_twice tables job row one two numbered at number same deck is =
    ap (λ n. queue_in (with_row two two.number (with_row one n tables.runs))) same
    ∙ ap queue_in (row_twice tables.runs two.number one two)
    ∙ kept_row tables job row two numbered at number deck is

pub step_ended : (tables : TablesModel) (job step rc writes : ℕ) (lengths : ArrayVec ℕ) (deck : Option Job) → AreNumbered 1 tables.runs
    → queue_of (after_event (StepEndedEvent job step rc writes lengths) deck tables) ≡ queue_of tables
step_ended tables job step rc writes lengths deck numbered =
    elim (run_of tables job) as (λ o. run_of tables job ≡ o → behind_by (λ row. by_step (λ owned step. after_step_ended row owned step rc writes lengths.items tables) row tables) tables o ≡ queue_of tables) [
      | None ↦ λ at. refl
      | Some row ↦ λ at.
          elim (step_of_run row (step_in (place_of row))) as (λ s. queue_of (option_map_or (λ owned. after_step_ended row owned (step_in (place_of row)) rc writes lengths.items tables) s tables) ≡ queue_of tables) [
            | None ↦ refl
            | Some owned ↦ kept_twice tables job row _ _ numbered at refl refl refl refl
          ]
    ] refl

-- a run that is put into its row, and has left the queue
gone_row : (tables : TablesModel) (job : ℕ) (row new : RunRow) (before : QueueState) → AreNumbered 1 tables.runs → run_of tables job ≡ Some row → queue_state row.state ≡ Some before → new.number ≡ row.number → queue_state new.state ≡ None
    → queue_in (with_row new new.number tables.runs) ≡ without job (queue_of tables)
gone_row tables job row new before numbered at was number is =
    ap (λ n. queue_in (with_row new n tables.runs)) (number ∙ run_number tables job row numbered at)
    ∙ no_state tables job row new before numbered at was is

gone_twice : (tables : TablesModel) (job : ℕ) (row one two : RunRow) (before : QueueState) → AreNumbered 1 tables.runs → run_of tables job ≡ Some row → queue_state row.state ≡ Some before → two.number ≡ row.number → one.number ≡ two.number → queue_state two.state ≡ None
    → queue_in (with_row two two.number (with_row one one.number tables.runs)) ≡ without job (queue_of tables)
gone_twice tables job row one two before numbered at was number same is =
    ap (λ n. queue_in (with_row two two.number (with_row one n tables.runs))) same
    ∙ ap queue_in (row_twice tables.runs two.number one two)
    ∙ gone_row tables job row two before numbered at was number is

-- a run ends behind its steps
pub completed : (tables : TablesModel) (job : ℕ) (deck : Option Job) (row : RunRow) (before : QueueState) → AreNumbered 1 tables.runs → run_of tables job ≡ Some row → queue_state row.state ≡ Some before
    → queue_of (after_event (EndedEvent job Completed) deck tables) ≡ without job (queue_of tables)
completed tables job deck row before numbered at was =
    ap (behind_by (λ row. after_passed_ended row tables) tables) at ∙ gone_row tables job row _ before numbered at was refl refl

-- a run ends with a code in one of its steps
pub coded : (tables : TablesModel) (job : ℕ) (code : Code) (rule writes : ℕ) (lengths : ArrayVec ℕ) (deck : Option Job) (row : RunRow) (owned : OwnedStep) (before : QueueState) → AreNumbered 1 tables.runs → run_of tables job ≡ Some row
    → step_of_run row (step_in (place_of row)) ≡ Some owned → queue_state row.state ≡ Some before
    → queue_of (after_event (EndedEvent job (Coded code rule writes lengths)) deck tables) ≡ without job (queue_of tables)
coded tables job code rule writes lengths deck row owned before numbered at there was =
    ap (behind_by (λ row. after_coded row writes lengths.items tables) tables) at
    ∙ ap (λ s. queue_of (option_map_or (λ owned. coded_at s owned) s tables)) there
    ∙ gone_twice tables job row _ _ before numbered at was refl refl refl
  where
    ended_in : OwnedStep → ℕ → TablesModel → TablesModel
    ended_in owned step tables =
        let row = record row { place = Some (Within step writes) } in
        let done = after_dispositions row owned step true tables in
        after_passed_ended (record row { passed = done.passed }) (record tables { sets = done.sets })

    coded_at : Option OwnedStep → OwnedStep → TablesModel
    coded_at s owned =
        let step = step_in (place_of row) in
        let done = after_commit row owned step writes lengths.items tables in
        option_map_or (λ owned. ended_in owned step done) s done

-- a run ends for a cause of allocation, before one of its steps or in it
pub refused : (tables : TablesModel) (job dd cause first second : ℕ) (deck : Option Job) (row : RunRow) (owned : OwnedStep) (before : QueueState) → AreNumbered 1 tables.runs → run_of tables job ≡ Some row
    → step_of_run row (step_in (place_of row)) ≡ Some owned → queue_state row.state ≡ Some before
    → queue_of (after_event (EndedEvent job (Allocation dd cause first second)) deck tables) ≡ without job (queue_of tables)
refused tables job dd cause first second deck row owned before numbered at there was =
    ap (behind_by (λ row. after_abnormal row (place_of row) tables) tables) at
    ∙ elim (place_of row) as (λ p. step_of_run row (step_in p) ≡ Some owned → queue_of (after_abnormal row p tables) ≡ without job (queue_of tables)) [
      | Before step ↦ λ e. gone_row tables job row _ before numbered at was refl refl
      | Opened step ↦ λ e. gone_row tables job row _ before numbered at was refl refl
      | Within step writes ↦ λ e.
          ap (λ s. queue_of (option_map_or (λ owned. let done = after_dispositions row owned step true tables in
          after_passed_ended (record row { passed = done.passed }) (record tables { sets = done.sets })) s tables)) e
          ∙ gone_row tables job row _ before numbered at was refl refl
    ] there
