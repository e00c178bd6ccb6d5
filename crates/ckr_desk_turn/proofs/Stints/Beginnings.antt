-- The stint of a run begins with Selected or Restarted: behind such a turn the run that is told is on the initiator.
use Rattle.std.proofs.Common.{◌≡◌, ◌<◌, ℕ, zero, suc, Bool, true, false, cond, ◌&&◌, ◌||◌, List, [], ◌∷◌, ◌++◌, find, slice_get, refl, ap, sym, ◌∙◌, subst, Option, Some, None, arith}
use Rattle.std.specs.Prelude.{◌==◌}
use Rattle.std.specs.Option.{is_none, is_some, option_map_or}
use Rattle.std.proofs.lemmas.Bool.{false≢true}
use Rattle.std.proofs.lemmas.Option.{same_Some}
use Rattle.ckr_base.specs.declared.code.Code.{Code}
use Rattle.ckr_base.proofs.Bools.{and-first, and-second, bool-cases, if-then}
use Rattle.ckr_base.proofs.Numbers.{equal-itself, equal-true}
use Rattle.ckr_base.proofs.Options.{is_some-true, some-not-none}
use Rattle.ckr_console.specs.declared.question.Answer.{Answer}
use Rattle.ckr_events.specs.Jobs.{job_of}
use Rattle.ckr_events.specs.declared.event.Event.{Event}
use Rattle.ckr_events.specs.declared.event.Event.TheVariants.{Restarted, Selected}
use Rattle.ckr_library.specs.NameMaps.{Name}
use Rattle.ckr_meaning.specs.EffectiveJob.{OwnedStep}
use Rattle.ckr_meaning.specs.StepRun.{StepStart}
use Rattle.ckr_meaning.specs.declared.place.Place.TheVariants.{Before}
use Rattle.ckr_points.specs.Events.{IsNext}
use Rattle.ckr_points.specs.Follows.{is_running, is_within, own_step, state_number}
use Rattle.ckr_points.specs.Marks.{deck_names, lost_names, own_names, point_at}
use Rattle.ckr_points.specs.Office.{Office, is_holder, office_after}
use Rattle.ckr_points.specs.Restart.{Back, after_chosen, after_entry_continued, after_event, after_taken_over, continued_row, deferred_entry, deferred_start, kept_at, place_of, sets_back, syschk_name}
use Rattle.ckr_points.specs.RuleCases.{rd_in_effect}
use Rattle.ckr_points.specs.Rows.{EffectPoint, KeptEntry, RunRow, TablesModel, run_of}
use Rattle.ckr_points.specs.Tables.{fresh_effect}
use Rattle.ckr_points.specs.declared.reply.Reply.{Reply}
use Rattle.ckr_points.specs.declared.reply.Reply.TheVariants.{Idle}
use Rattle.ckr_points.specs.declared.run.RunState.{RunState}
use Rattle.ckr_points.specs.declared.run.RunState.TheVariants.{Denied, Ended, Held, On, Purged, Queued, Released}
use Rattle.ckr_points_invariant.specs.Invariant.{step_now}
use Rattle.ckr_points_invariant.specs.KeptEvents.{AreKept}
use Rattle.ckr_points_invariant.specs.Readiness.{IsCheck}
use Rattle.ckr_points_invariant.specs.EarlierRuns.{IsEntryOf, MayContinue}
use Rattle.ckr_points_invariant.proofs.Continuations.Follows.{after-selected}
use Rattle.ckr_points_invariant.proofs.Holders.Rows.{run-same}
use Rattle.ckr_points_invariant.proofs.Readiness.Office.{entries-restorable, steps-restorable}
use Rattle.ckr_points_invariant.proofs.Readiness.Runs.{kept-entry}
use Rattle.ckr_points_invariant.proofs.Restart.Event.{at-step, by-run, holder-entry, holder-start, row_back, row_then, to-entry, to-start}
use Rattle.ckr_points_invariant.proofs.Restart.Verdicts.{check-there}
use Rattle.ckr_rules.specs.RuleTables.{suppresses}
use Rattle.ckr_volumes.specs.declared.layout.Layout.{Layout}
use Rattle.ckr_desk_turn.specs.declared.plan.Plan.{Plan}
use Rattle.ckr_desk_turn.specs.declared.plan.Plan.TheVariants.{Ask, Rest, Tell, Work, Pass, Take, Wait}
use Rattle.ckr_desk_turn.specs.Checkpoints.{checkpoint_fits, checkpoint_try, checkpoint_turn, checkpoint_unless}
use Rattle.ckr_desk_turn.specs.Codes.{initiator_of}
use Rattle.ckr_desk_turn.specs.Desk.{DeskModel, TurnDone, answered, done_by, jobs_of, seen, unit_done, with_progress}
use Rattle.ckr_desk_turn.specs.Inquiries.{decide}
use Rattle.ckr_desk_turn.specs.Invariant.{IsDesk, has_its_step, is_off}
use Rattle.ckr_desk_turn.specs.Stints.{begun}
use Rattle.ckr_desk_turn.specs.Mounts.{plan_by}
use Rattle.ckr_desk_turn.specs.NextEvents.{Comes, EventComes}
use Rattle.ckr_desk_turn.specs.Plans.{chosen_plan, free_plan, plan_of, run_plan}
use Rattle.ckr_desk_turn.specs.Select.{is_on, may_select, next_run, run_on_initiator}
use Rattle.ckr_desk_turn.specs.Taken.{served_by}
use Rattle.ckr_desk_turn.specs.Turns.{AnsweredTurn, IsAnsweredTurnOf, carried_out, turn_of}
use Rattle.ckr_desk_turn.specs.Units.{StepProgress, UnitEnd, unit_end, unit_plan}
use Rattle.ckr_desk_turn.proofs.Mounts.{idle-stays, plan_by-cases}
use Rattle.ckr_desk_turn.proofs.NextEvents.BetweenSteps.{row_of_found}
use Rattle.ckr_desk_turn.proofs.OtherRuns.{row-stepped}
use Rattle.ckr_desk_turn.proofs.Readiness.{desk-kept}
use Rattle.ckr_desk_turn.proofs.Runs.Continuations.{continues-so}
use Rattle.ckr_desk_turn.proofs.Turns.Initiator.{turn-keeps}
use Rattle.ckr_desk_turn.proofs.Turns.Outcomes.{office_by, turn-by}
use Rattle.ckr_desk_turn.proofs.Stints.Initiators.{first-found, found-first}
use Rattle.ckr_desk_turn.proofs.Stints.OtherTurns.{tables-behind}
use Rattle.ckr_desk_turn.proofs.Stints.OwnRows.{others-stay}
use Rattle.ckr_desk_turn.proofs.Stints.Plans.{answered-by, by-acting, chosen-by, event-job, is_beginning, is_event_by, is_plan_by, run-by, tells_beginning, unit-by}

-- ---- the run behind the event

-- a run is on an initiator
record IsLodged (tables : TablesModel) (job i : ℕ) : Type 0 where
  pub next : RunRow
  pub at : run_of tables job ≡ Some next
  pub number : next.number ≡ job
  pub on : next.initiator ≡ Some i

-- a run that holds its names within a step has that step
own-there : {A : Type 0} (row : RunRow) → has_its_step row ≡ true → is_holder row.state ≡ true → is_within (place_of row) ≡ true → ((owned : OwnedStep) → own_step row ≡ Some owned → A) → A
own-there row stepped holds within use_it =
    is_some-true (own_step row)
    (if-then (is_running row || is_off row.state) (is_some (own_step row)) stepped (ap (λ b. (state_number row.state == 2) && b || is_off row.state) within ∙ by row.state holds))
    use_it
  where
    by : (state : RunState) → is_holder state ≡ true → ((state_number state == 2) && true || is_off state) ≡ true
    by Queued holds = absurd (false≢true holds)
    by On holds = refl
    by Held holds = refl
    by Released holds = refl
    by Ended holds = absurd (false≢true holds)
    by Denied holds = absurd (false≢true holds)
    by Purged holds = absurd (false≢true holds)

module _ (layout : Layout) (office : Office) (are : AreKept layout office) (stepped : (run : ℕ) (row : RunRow) → run_of office.tables run ≡ Some row → has_its_step row ≡ true) (job i : ℕ) where
  -- a run that is restarted
  restarted-lodged : (code : Code) (checkpoint : Bool) → IsNext layout office (Restarted job i code checkpoint, None) → IsLodged (office_after (Restarted job i code checkpoint, None) office).tables job i
  restarted-lodged code false next =
      by-run layout office job i code None are.kept.events are.pointed false (λ (later : Office). IsLodged later.tables job i) next.may next.carried
      (λ row leg its.
      let can = steps-restorable office are.ready in
      own-there row (stepped job row its.holder.row_at) its.holder.holds its.within
      (λ owned found.
      is_some-true (point_at row.points (step_now row)) ((are.ready.runs job row leg its.holder).begun its.within)
      (λ point got.
      at-step layout office job i code None are.kept.events are.pointed false (λ (later : Office). IsLodged later.tables job i) row its.holder.row_at (Some owned) found
      (to-start layout office job i code None are.kept.events are.pointed can row leg its owned found point got (λ (later : Office). IsLodged later.tables job i)
      (record {
        next = row_then layout office job i code None are.kept.events are.pointed can row leg its owned found point got;
        at = (holder-start layout office job i code None are.kept.events are.pointed can row leg its owned found point got).row_at;
        number = are.kept.events.numbered job row its.holder.row_at;
        on = refl;
      })))))
  restarted-lodged code true next =
      by-run layout office job i code None are.kept.events are.pointed true (λ (later : Office). IsLodged later.tables job i) next.may next.carried
      (λ row leg its.
      let can = entries-restorable office are.ready in
      own-there row (stepped job row its.holder.row_at) its.holder.holds its.within
      (λ owned found.
      is_some-true row.in_effect (check-there row (step_now row) layout.eligible.items code its.verdict)
      (λ effect got.
      let check : IsCheck office.tables.sets row leg effect = (are.ready.runs job row leg its.holder).check effect its.within got in
      let there : kept_at office.tables.sets effect.set effect.kept.id ≡ Some check.entry = kept-entry office.tables.sets effect.set effect.kept.id check.entry check.keeps in
      at-step layout office job i code None are.kept.events are.pointed true (λ (later : Office). IsLodged later.tables job i) row its.holder.row_at (Some owned) found
      (to-entry layout office job i code None are.kept.events are.pointed can row leg its owned found effect got check.entry there (λ (later : Office). IsLodged later.tables job i)
      (record {
        next = row_back layout office job i code None are.kept.events are.pointed can row leg its owned found effect got check.entry there;
        at = (holder-entry layout office job i code None are.kept.events are.pointed can row leg its owned found effect got check.entry there).row_at;
        number = are.kept.events.numbered job row its.holder.row_at;
        on = refl;
      })))))

  -- one that continues another one
  module _ (before step : ℕ) (id : Option Name) (its : MayContinue layout office.tables job i (suc before) step id) where
    numbered : its.row.number ≡ job
    numbered = are.kept.events.numbered job its.row its.row_at

    over-lodged : (effect : Option EffectPoint) (back : Back) → IsLodged (after_taken_over (record (continued_row its.row its.other step its.point i office.tables.sets) { in_effect = effect }) its.owned back office.tables) job i
    over-lodged effect back =
        let row : RunRow = record (continued_row its.row its.other step its.point i office.tables.sets) { in_effect = effect } in
        let named : List Name = own_names row ++ deck_names row.job.root row.number row.deck in
        let lost : List Name = lost_names back.marks named (sets_back row its.owned back office.tables.sets) back.passed in
        let next : RunRow = record row { lost = lost; place = Some back.place; count = back.count; passed = back.passed } in
        record { next = next; at = run-same (record office.tables { sets = sets_back row its.owned back office.tables.sets }) next its.row job its.row_at numbered; number = numbered; on = refl }

  continued-lodged : (before step : ℕ) (id : Option Name) → MayContinue layout office.tables job i (suc before) step id → IsLodged (after_event (Selected job i (suc before) step id) None office.tables) job i
  continued-lodged before step None its =
      subst (λ tables. IsLodged tables job i) (sym (after-selected layout office.tables job i before step None None its)) (over-lodged before step None its its.row.in_effect (deferred_start (continued_row its.row its.other step its.point i office.tables.sets) its.owned step its.point))
  continued-lodged before step (Some id) its =
      subst (λ tables. IsLodged tables job i) (sym (after-selected layout office.tables job i before step (Some id) None its)) (by (kept_at office.tables.sets (syschk_name its.row.deck) id) its.entry)
    where
      by : (entry : Option KeptEntry) → IsEntryOf its.other step (Some id) entry
          → IsLodged (option_map_or (λ entry. after_entry_continued (continued_row its.row its.other step its.point i office.tables.sets) its.owned step (syschk_name its.row.deck) entry office.tables) entry office.tables) job i
      by None of_run = absurd of_run
      by (Some entry) of_run =
          over-lodged before step (Some id) its (Some (fresh_effect (syschk_name its.row.deck) entry.kept)) (deferred_entry (record (continued_row its.row its.other step its.point i office.tables.sets) { in_effect = Some (fresh_effect (syschk_name its.row.deck) entry.kept) }) step entry.point)

  -- one that is selected
  selected-lodged : (row : RunRow) → run_of office.tables job ≡ Some row → (earlier step : ℕ) (id : Option Name) → IsNext layout office (Selected job i earlier step id, None) → IsLodged (after_event (Selected job i earlier step id) None office.tables) job i
  selected-lodged row at zero step id next =
      let number : row.number ≡ job = are.kept.events.numbered job row at in
      subst (λ (o : Option RunRow). IsLodged (option_map_or (λ row. after_chosen row i zero step id office.tables) o office.tables) job i) (sym at)
      (record { next = record row { state = On; initiator = Some i; place = Some (Before 1) }; at = run-same office.tables (record row { state = On; initiator = Some i; place = Some (Before 1) }) row job at number; number = number; on = refl })
  selected-lodged row at (suc before) step id next = continued-lodged before step id (continues-so layout office job i before step id None next)

  -- behind either event
  beginning-lodged : (row : RunRow) → run_of office.tables job ≡ Some row → (event : Event) → is_event_by job i event ≡ true → is_beginning event ≡ true → IsNext layout office (event, None) → IsLodged (after_event event None office.tables) job i
  beginning-lodged row at (Selected number initiator earlier step id) its begins next =
      let same : number ≡ job = equal-true number job (and-first (number == job) (initiator == i) its) in
      let on : initiator ≡ i = equal-true initiator i (and-second (number == job) (initiator == i) its) in
      subst (λ n. IsLodged (after_event (Selected n initiator earlier step id) None office.tables) job i) (sym same)
      (subst (λ n. IsLodged (after_event (Selected job n earlier step id) None office.tables) job i) (sym on)
      (selected-lodged row at earlier step id (subst (λ n. IsNext layout office (Selected job n earlier step id, None)) on (subst (λ n. IsNext layout office (Selected n initiator earlier step id, None)) same next))))
  beginning-lodged row at (Restarted number initiator code checkpoint) its begins next =
      let same : number ≡ job = equal-true number job (and-first (number == job) (initiator == i) its) in
      let on : initiator ≡ i = equal-true initiator i (and-second (number == job) (initiator == i) its) in
      subst (λ n. IsLodged (after_event (Restarted n initiator code checkpoint) None office.tables) job i) (sym same)
      (subst (λ n. IsLodged (after_event (Restarted job n code checkpoint) None office.tables) job i) (sym on)
      (restarted-lodged code checkpoint (subst (λ n. IsNext layout office (Restarted job n code checkpoint, None)) on (subst (λ n. IsNext layout office (Restarted n initiator code checkpoint, None)) same next))))
  beginning-lodged row at _ its begins next = absurd (false≢true begins)

-- ---- no other run is on it before

none-before : (test : RunRow → Bool) (rows : List RunRow) → find test rows ≡ None → (place : ℕ) (row : RunRow) → slice_get rows place ≡ Some row → test row ≡ false
none-before test [] none place row at = absurd (some-not-none row (sym at))
none-before test (first ∷ rows) none zero row at =
    bool-cases (test first)
    (λ does. absurd (some-not-none first (sym (ap (λ b. cond b (Some first) (find test rows)) does) ∙ none)))
    (λ isnt. ap test (sym (same_Some first row at)) ∙ isnt)
none-before test (first ∷ rows) none (suc place) row at =
    bool-cases (test first)
    (λ does. absurd (some-not-none first (sym (ap (λ b. cond b (Some first) (find test rows)) does) ∙ none)))
    (λ isnt. none-before test rows (sym (ap (λ b. cond b (Some first) (find test rows)) isnt) ∙ none) place row at)

-- no run before this one is on the initiator
abbrev IsFor : TablesModel → ℕ → RunRow → Type 0
IsFor tables i row = (place : ℕ) (other : RunRow) → suc place < row.number → slice_get tables.runs place ≡ Some other → is_on i other.initiator ≡ false

-- the run of an initiator, behind the event by which its stint begins
record IsBegun (tables : TablesModel) (i job : ℕ) : Type 0 where
  pub row : RunRow
  pub on : run_on_initiator tables i ≡ Some row
  pub number : row.number ≡ job

module _ (desk : DeskModel) (is : IsDesk desk) (i : ℕ) (row : RunRow) (at : run_of desk.office.tables row.number ≡ Some row) (for : IsFor desk.office.tables i row) where
  begun-behind : (event : Event) → is_event_by row.number i event ≡ true → is_beginning event ≡ true → Comes desk event → IsBegun (after_event event None desk.office.tables) i row.number
  begun-behind event its begins comes = by row.number refl
    where
      here : RunRow → Bool
      here other = is_on i other.initiator

      lodged : IsLodged (after_event event None desk.office.tables) row.number i
      lodged = beginning-lodged desk.layout desk.office (desk-kept desk is) (row-stepped desk is) row.number i row at event its begins comes

      by : (number : ℕ) → row.number ≡ number → IsBegun (after_event event None desk.office.tables) i row.number
      by zero none = absurd (some-not-none row (sym at ∙ ap (run_of desk.office.tables) none))
      by (suc place) same = record {
        row = lodged.next;
        on =
            found-first here (after_event event None desk.office.tables).runs place lodged.next
            (record {
              at = ap (run_of (after_event event None desk.office.tables)) (sym same) ∙ lodged.at;
              passes = ap (is_on i) lodged.on ∙ equal-itself i;
              before = λ other one below got.
                  for other one (omega (arith, below, same))
                  (sym (others-stay desk.office.tables is.kept.events.numbered event other (λ e. let job : job_of event ≡ row.number = event-job row.number i event its in omega (arith, e, job, same, below))) ∙ got);
            });
        number = lodged.number;
      }

-- ---- a turn that tells such a reply

-- with a reply by which a stint begins, it tells such an event of this run
record TellsBeginning (run i : ℕ) (done : TurnDone) (job : ℕ) : Type 0 where
  pub same : job ≡ run
  pub event : Event
  pub told : done.event ≡ Some event
  pub its : is_event_by run i event ≡ true
  pub begins : is_beginning event ≡ true

abbrev Begins : ℕ → ℕ → TurnDone → Type 0
Begins run i done = (job : ℕ) → begun done.reply ≡ Some job → TellsBeginning run i done job

none-begins : (run i : ℕ) (done : TurnDone) → is_none (begun done.reply) ≡ true → Begins run i done
none-begins run i done none job tells = absurd (false≢true (ap is_none (sym tells) ∙ none))

module _ (lodged : Bool) (run i : ℕ) where
  done-begins : (plan : Plan) (desk : DeskModel) → is_plan_by lodged run i plan ≡ true → Begins run i (done_by plan desk)
  done-begins (Rest reply) desk its = none-begins run i (done_by (Rest reply) desk) its
  done-begins (Tell reply event) desk its = λ job tells.
      let told : (job == run && is_beginning event) ≡ true =
      sym (ap (λ o. option_map_or (λ job. job == run && is_beginning event) o true) tells) ∙ and-first (tells_beginning run reply event) (is_event_by run i event) its in
      record {
        same = equal-true job run (and-first (job == run) (is_beginning event) told);
        event = event;
        told = refl;
        its = and-second (tells_beginning run reply event) (is_event_by run i event) its;
        begins = and-second (job == run) (is_beginning event) told;
      }
  done-begins (Work job) desk its = none-begins run i (done_by (Work job) desk) refl
  done-begins (Pass job reply) desk its = none-begins run i (done_by (Pass job reply) desk) (and-first (is_none (begun reply)) (job == run) its)
  done-begins (Take job) desk its = none-begins run i (done_by (Take job) desk) refl
  done-begins (Ask inquiry) desk its = none-begins run i (done_by (Ask inquiry) desk) refl
  done-begins (Wait job code) desk its = none-begins run i (done_by (Wait job code) desk) refl

  answered-begins : (answer : Answer) (plan : Plan) (desk : DeskModel) → is_plan_by lodged run i plan ≡ true → Begins run i (answered answer plan desk)
  answered-begins answer plan desk its = λ job tells.
      let told : TellsBeginning run i (done_by (decide answer plan) desk) job = done-begins (decide answer plan) desk (answered-by lodged run i answer plan its) job tells in
      record { same = told.same; event = told.event; told = told.told; its = told.its; begins = told.begins }

module _ (desk : DeskModel) (i : ℕ) (row : RunRow) (at : run_of desk.office.tables row.number ≡ Some row) where
  unit-begins : initiator_of row ≡ i → (answer : Answer) (end : UnitEnd) → Begins row.number i (unit_done answer row end desk)
  unit-begins lodges answer end =
      let moved : DeskModel = with_progress row.number end.progress desk in
      answered-begins true row.number i answer (unit_plan desk.layout (jobs_of moved) row (seen moved.office row.number end.progress) end.unit) moved
      (subst (λ n. is_plan_by true row.number n (unit_plan desk.layout (jobs_of moved) row (seen moved.office row.number end.progress) end.unit) ≡ true) lodges
      (unit-by desk.layout (jobs_of moved) row (seen moved.office row.number end.progress) end.unit))

  served-none : (start : StepStart) (progress : StepProgress) → is_none (begun (checkpoint_turn desk.office.tables row start progress).reply) ≡ true
  served-none start progress =
      elim (suppresses (rd_in_effect row start.number)) as (λ b. is_none (begun (checkpoint_unless b desk.office.tables row start progress).reply) ≡ true) [
        | true ↦ refl
        | false ↦
            elim (checkpoint_fits desk.office.tables.sets row start progress) as (λ b. is_none (begun (checkpoint_try b desk.office.tables row start progress).reply) ≡ true) [
              | true ↦ refl
              | false ↦ refl
            ]
      ]

  carried-begins : (lodged : Bool) → (lodged ≡ true → initiator_of row ≡ i) → (answer : Answer) (plan : Plan) → is_plan_by lodged row.number i plan ≡ true → Begins row.number i (carried_out answer plan desk)
  carried-begins lodged lodges answer (Rest reply) its = done-begins lodged row.number i (Rest reply) desk its
  carried-begins lodged lodges answer (Tell reply event) its = done-begins lodged row.number i (Tell reply event) desk its
  carried-begins lodged lodges answer (Pass job reply) its = done-begins lodged row.number i (Pass job reply) desk its
  carried-begins lodged lodges answer (Wait job code) its = done-begins lodged row.number i (Wait job code) desk its
  carried-begins lodged lodges answer (Ask inquiry) its = answered-begins lodged row.number i answer (Ask inquiry) desk its
  carried-begins true lodges answer (Work job) its =
      by-acting (Begins row.number i) desk row at (none-begins row.number i (done_by (Rest Idle) desk) refl) (λ one start progress. unit_done answer one (unit_end start progress) desk)
      (λ start progress. unit-begins (lodges refl) answer (unit_end start progress)) job (equal-true job row.number its)
  carried-begins true lodges answer (Take job) its =
      by-acting (Begins row.number i) desk row at (none-begins row.number i (done_by (Rest Idle) desk) refl) (λ one start progress. served_by one (checkpoint_turn desk.office.tables one start progress) desk)
      (λ start progress. none-begins row.number i (served_by row (checkpoint_turn desk.office.tables row start progress) desk) (served-none start progress)) job (equal-true job row.number its)
  carried-begins false lodges answer (Work job) its = absurd (false≢true its)
  carried-begins false lodges answer (Take job) its = absurd (false≢true its)

-- ---- any turn

module _ (desk : DeskModel) (is : IsDesk desk) (one : AnsweredTurn) (its : IsAnsweredTurnOf desk.layout one) (job : ℕ) where
  abbrev i : ℕ
  i = one.turn.turn.initiator

  -- the run is the first one on the initiator then
  abbrev Starts : TurnDone → Type 0
  Starts done = begun done.reply ≡ Some job → EventComes desk done.event → (event : Event) × (done.event ≡ Some event) × IsBegun (after_event event None desk.office.tables) i job

  by-run-of : (row : RunRow) → run_of desk.office.tables row.number ≡ Some row → IsFor desk.office.tables i row → (done : TurnDone) → Begins row.number i done → Starts done
  by-run-of row at for done begins tells comes =
      let told : TellsBeginning row.number i done job = begins job tells in
      let starts : IsBegun (after_event told.event None desk.office.tables) i row.number = begun-behind desk is i row at for told.event told.its told.begins (subst (EventComes desk) told.told comes) in
      (told.event, told.told, record { row = starts.row; on = starts.on; number = starts.number ∙ sym told.same })

  mounted-starts : (row : RunRow) (lodged : Bool) → (lodged ≡ true → initiator_of row ≡ i) → run_of desk.office.tables row.number ≡ Some row → IsFor desk.office.tables i row → (plan : Plan) → is_plan_by lodged row.number i plan ≡ true
      → Starts (carried_out one.answer (plan_by desk.layout desk.office.tables one.turn.taking plan) desk)
  mounted-starts row lodged lodges at for plan by =
      plan_by-cases (λ plan. Starts (carried_out one.answer plan desk)) desk.layout desk.office.tables plan
      (by-run-of row at for (carried_out one.answer plan desk) (carried-begins desk i row at lodged lodges one.answer plan by))
      (λ step dd cause wanted tells comes. cc) one.turn.taking (λ need free tells comes. cc) (λ awaited tells comes. cc)

  rest-starts : (reply : Reply) → is_none (begun reply) ≡ true → Starts (carried_out one.answer (plan_by desk.layout desk.office.tables one.turn.taking (Rest reply)) desk)
  rest-starts reply none =
      subst (λ plan. Starts (carried_out one.answer plan desk)) (sym (idle-stays desk.layout desk.office.tables one.turn.taking (Rest reply) refl))
      (λ tells comes. absurd (false≢true (ap is_none (sym tells) ∙ none)))

  lodged-is : (o : Option ℕ) → is_on i o ≡ true → o ≡ Some i
  lodged-is None its = absurd (false≢true its)
  lodged-is (Some other) its = ap Some (sym (equal-true i other its))

  run-starts : (row : RunRow) → run_on_initiator desk.office.tables i ≡ Some row → Starts (carried_out one.answer (plan_by desk.layout desk.office.tables one.turn.taking (run_plan desk.layout (jobs_of desk) one.turn.turn.fail row)) desk)
  run-starts row found =
      let at : run_of desk.office.tables row.number ≡ Some row = row_of_found desk.layout desk.office (λ other. is_on i other.initiator) row is.kept found in
      let first = first-found (λ (other : RunRow). is_on i other.initiator) desk.office.tables.runs row found in
      let number : row.number ≡ suc first.0 = is.kept.events.numbered (suc first.0) row first.1.at in
      let lodges : initiator_of row ≡ i = ap (λ (o : Option ℕ). option_map_or (λ initiator. initiator) o 0) (lodged-is row.initiator first.1.passes) in
      mounted-starts row true (λ e. lodges) at (λ place other below got. first.1.before place other (omega (arith, below, number)) got) (run_plan desk.layout (jobs_of desk) one.turn.turn.fail row)
      (subst (λ n. is_plan_by true row.number n (run_plan desk.layout (jobs_of desk) one.turn.turn.fail row) ≡ true) lodges (run-by desk.layout (jobs_of desk) row one.turn.turn.fail))

  free-starts : run_on_initiator desk.office.tables i ≡ None → (fail : Option Code) → Starts (carried_out one.answer (plan_by desk.layout desk.office.tables one.turn.taking (free_plan desk.layout (jobs_of desk) i fail)) desk)
  free-starts free (Some code) = rest-starts _ refl
  free-starts free None = by (next_run desk.office.tables) refl
    where
      by : (next : Option RunRow) → next_run desk.office.tables ≡ next → Starts (carried_out one.answer (plan_by desk.layout desk.office.tables one.turn.taking (option_map_or (chosen_plan desk.layout (jobs_of desk) i) next (Rest Idle))) desk)
      by None e = rest-starts Idle refl
      by (Some row) e =
          mounted-starts row false (λ e. absurd (false≢true e)) (row_of_found desk.layout desk.office (λ other. may_select desk.office.tables other.state other) row is.kept e)
          (λ place other below got. none-before (λ (other : RunRow). is_on i other.initiator) desk.office.tables.runs free place other got)
          (chosen_plan desk.layout (jobs_of desk) i row) (chosen-by desk.layout (jobs_of desk) row i)

  turn-starts : Starts (turn_of desk one.turn one.answer)
  unfolding turn_of plan_of
  turn-starts = by (run_on_initiator desk.office.tables i) refl
    where
      by : (found : Option RunRow) → run_on_initiator desk.office.tables i ≡ found
          → Starts (carried_out one.answer (plan_by desk.layout desk.office.tables one.turn.taking (option_map_or (run_plan desk.layout (jobs_of desk) one.turn.turn.fail) found (free_plan desk.layout (jobs_of desk) i one.turn.turn.fail))) desk)
      by None e = free-starts e one.turn.turn.fail
      by (Some row) e = run-starts row e

  pub turn-begins : begun (turn_of desk one.turn one.answer).reply ≡ Some job → (row : RunRow) × (run_on_initiator (turn_of desk one.turn one.answer).desk.office.tables i ≡ Some row) × (row.number ≡ job)
  turn-begins tells =
      let keeps = turn-keeps desk one.turn one.answer is its.above its.below in
      let starts = turn-starts tells keeps.comes in
      let same : (turn_of desk one.turn one.answer).desk.office.tables ≡ after_event starts.0 None desk.office.tables =
      ap (λ (office : Office). office.tables) (turn-by desk one.turn one.answer ∙ ap (λ event. office_by event desk.office) starts.1) ∙ tables-behind desk.office starts.0 in
      (starts.2.row, ap (λ tables. run_on_initiator tables i) same ∙ starts.2.on, starts.2.number)
