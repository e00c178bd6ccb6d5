-- A turn of another initiator leaves the run of an initiator: its row, its running step and its mark.
use Rattle.std.proofs.Common.{◌≡◌, ◌≢◌, ℕ, zero, suc, Bool, true, false, ◌||◌, List, refl, ap, sym, ◌∙◌, subst, Option, Some, None}
use Rattle.std.specs.Prelude.{◌==◌}
use Rattle.std.specs.Option.{is_none, option_map_or}
use Rattle.std.proofs.lemmas.Bool.{false≢true}
use Rattle.std.proofs.lemmas.Option.{same_Some}
use Rattle.ckr_base.specs.declared.code.Code.{Code}
use Rattle.ckr_base.proofs.Bools.{and-second, bool-cases, or-false}
use Rattle.ckr_base.proofs.Numbers.{equal-itself, equal-true}
use Rattle.ckr_base.proofs.Options.{is_none-true, some-one}
use Rattle.ckr_base.proofs.Sequences.{find-passes}
use Rattle.ckr_console.specs.declared.question.Answer.{Answer}
use Rattle.ckr_events.specs.Jobs.{job_of}
use Rattle.ckr_events.specs.declared.event.Event.{Event}
use Rattle.ckr_events.specs.declared.event.Event.TheVariants.{Cancelled as CancelledEvent, Ended as EndedEvent, Restarted as RestartedEvent, Selected as SelectedEvent, Started as StartedEvent}
use Rattle.ckr_events.specs.declared.event.Made.{Made}
use Rattle.ckr_meaning.specs.EffectiveJob.{OwnedStep}
use Rattle.ckr_meaning.specs.StepRun.{StepStart}
use Rattle.ckr_points.specs.declared.run.RunState.{RunState}
use Rattle.ckr_points.specs.Follows.{own_step}
use Rattle.ckr_points.specs.Office.{Office, office_after}
use Rattle.ckr_points.specs.RuleCases.{rd_in_effect}
use Rattle.ckr_points.specs.Rows.{RunRow, TablesModel, run_of, with_row}
use Rattle.ckr_points.specs.Restart.{after_event}
use Rattle.ckr_rules.specs.RuleTables.{suppresses}
use Rattle.ckr_desk_turn.specs.declared.plan.Plan.{Plan}
use Rattle.ckr_desk_turn.specs.declared.plan.Plan.TheVariants.{Ask, Rest, Tell, Work, Pass, Take, Wait}
use Rattle.ckr_points.specs.declared.reply.Reply.{Reply}
use Rattle.ckr_points.specs.declared.reply.Reply.TheVariants.{Idle}
use Rattle.ckr_desk_turn.specs.Checkpoints.{checkpoint_fits, checkpoint_try, checkpoint_turn, checkpoint_unless}
use Rattle.ckr_desk_turn.specs.Codes.{initiator_of}
use Rattle.ckr_desk_turn.specs.Desk.{DeskModel, answered, behind, checkpoint_done, done_by, jobs_of, seen, unit_done, with_progress}
use Rattle.ckr_desk_turn.specs.Inquiries.{decide}
use Rattle.ckr_desk_turn.specs.Invariant.{IsDesk, is_on_one}
use Rattle.ckr_desk_turn.specs.Stints.{begun}
use Rattle.ckr_desk_turn.specs.Mounts.{Wanting, plan_by, wanting, wanting_in, wants}
use Rattle.ckr_desk_turn.specs.Plans.{allocation_ended, chosen_plan, free_plan, plan_of, run_plan}
use Rattle.ckr_desk_turn.specs.Select.{is_on, may_select, next_run, run_on_initiator}
use Rattle.ckr_desk_turn.specs.Taken.{behind_entry, served_by}
use Rattle.ckr_desk_turn.specs.Turns.{MountedTurn, carried_out, turn_of}
use Rattle.ckr_desk_turn.specs.Units.{StepProgress, UnitEnd, unit_end, unit_plan}
use Rattle.ckr_desk_turn.proofs.Mounts.{idle-stays, plan_by-cases}
use Rattle.ckr_desk_turn.proofs.NextEvents.BetweenSteps.{next_cases, row_of_found, state_found}
use Rattle.ckr_desk_turn.proofs.OtherRuns.{state-lodged}
use Rattle.ckr_desk_turn.proofs.Stints.Bounds.{has_mark, running_of}
use Rattle.ckr_desk_turn.proofs.Stints.Initiators.{IsFirst, first-found, first-other, found-first}
use Rattle.ckr_desk_turn.proofs.Stints.OtherSteps.{found-behind, found-changed, found-coded, found-next, marked-asked, marked-next}
use Rattle.ckr_desk_turn.proofs.Stints.Plans.{answered-by, by-acting, chosen-by, event-job, is_event_by, is_plan_by, run-by, tells_beginning, unit-by}
use Rattle.ckr_desk_turn.proofs.Stints.Rows.{GivesOnly, rows-behind}

-- the tables behind an event are those of the office
pub tables-behind : (office : Office) (event : Event) → (office_after (event, None) office).tables ≡ after_event event None office.tables
tables-behind office (SelectedEvent job initiator earlier step id) = refl
tables-behind office (EndedEvent job ending) = refl
tables-behind office _ = refl

-- an initiator that isn't this one
abbrev IsOff : ℕ → Option ℕ → Type 0
IsOff i o = is_on i o ≡ false

event-off : (i run initiator : ℕ) (event : Event) → is_event_by run initiator event ≡ true → (i == initiator) ≡ false → GivesOnly (IsOff i) event
event-off i run initiator (SelectedEvent job on earlier step id) its away = ap (λ n. i == n) (equal-true on initiator (and-second (job == run) (on == initiator) its)) ∙ away
event-off i run initiator (RestartedEvent job on code checkpoint) its away = ap (λ n. i == n) (equal-true on initiator (and-second (job == run) (on == initiator) its)) ∙ away
event-off i run initiator _ its away = tt

-- the run on an initiator is the same behind an event of another one
row-still : (tables : TablesModel) → ((number : ℕ) (one : RunRow) → run_of tables number ≡ Some one → one.number ≡ number) → (i : ℕ) (row : RunRow) → run_on_initiator tables i ≡ Some row → (event : Event) → GivesOnly (IsOff i) event → (job_of event == row.number) ≡ false
    → ((one : RunRow) → run_of tables (job_of event) ≡ Some one → IsOff i one.initiator) → run_on_initiator (after_event event None tables) i ≡ Some row
row-still tables numbered i row on event gives apart off =
    let first = first-found here tables.runs row on in
    let number : row.number ≡ suc first.0 = numbered (suc first.0) row first.1.at in
    found-first here (after_event event None tables).runs first.0 row
    (rows-behind (λ runs. IsFirst here runs first.0 row) (IsOff i) refl event gives
    (λ other runs its is. put other.number other runs first.0 (λ e. false≢true (sym apart ∙ ap (λ n. n == row.number) (sym its.number ∙ e ∙ sym number) ∙ equal-itself row.number)) its.off is)
    tables first.1 (λ one at. record { number = numbered (job_of event) one at; off = off one at }))
  where
    here : RunRow → Bool
    here other = is_on i other.initiator

    put : (number : ℕ) (other : RunRow) (runs : List RunRow) (place : ℕ) → number ≢ suc place → IsOff i other.initiator → IsFirst here runs place row → IsFirst here (with_row other number runs) place row
    put zero other runs place away off is = is
    put (suc before) other runs place away off is = first-other here runs place before row other (λ e. away (ap suc e)) off is

-- ---- the run of an initiator is left

pub record IsLeft (desk later : DeskModel) (i : ℕ) (row : RunRow) : Type 0 where
  pub on : run_on_initiator later.office.tables i ≡ Some row
  pub running : running_of later row.number ≡ running_of desk row.number
  pub mark : has_mark later row.number ≡ has_mark desk row.number

left-twice : (desk mid later : DeskModel) (i : ℕ) (row : RunRow) → IsLeft desk mid i row → IsLeft mid later i row → IsLeft desk later i row
left-twice desk mid later i row one other = record { on = other.on; running = other.running ∙ one.running; mark = other.mark ∙ one.mark }

-- another run, which isn't on the initiator, and to which a plan may give this one
record IsAway (desk : DeskModel) (i : ℕ) (row other : RunRow) (initiator : ℕ) (lodged : Bool) : Type 0 where
  pub at : run_of desk.office.tables other.number ≡ Some other
  pub off : is_on i other.initiator ≡ false
  pub apart : (other.number == row.number) ≡ false
  pub away : (i == initiator) ≡ false
  pub lodges : lodged ≡ true → initiator_of other ≡ initiator

module _ (i : ℕ) (row other : RunRow) where
  -- where a step of the other run has come further
  moved-left : (desk : DeskModel) → run_on_initiator desk.office.tables i ≡ Some row → (other.number == row.number) ≡ false → (progress : StepProgress) → IsLeft desk (with_progress other.number progress desk) i row
  moved-left desk on apart progress = record { on = on; running = found-behind row.number other.number apart (record { run = other.number; progress = progress; code = None }) desk.running refl; mark = refl }

  module _ (desk : DeskModel) (numbered : (number : ℕ) (one : RunRow) → run_of desk.office.tables number ≡ Some one → one.number ≡ number) (on : run_on_initiator desk.office.tables i ≡ Some row) (initiator : ℕ) (lodged : Bool) (is : IsAway desk i row other initiator lodged) where
    event-left : (event : Event) → is_event_by other.number initiator event ≡ true → IsLeft desk (behind event None desk) i row
    event-left event its =
        let job : job_of event ≡ other.number = event-job other.number initiator event its in
        let apart : (job_of event == row.number) ≡ false = ap (λ n. n == row.number) job ∙ is.apart in
        record {
          on =
              ap (λ tables. run_on_initiator tables i) (tables-behind desk.office event)
              ∙ row-still desk.office.tables numbered i row on event (event-off i other.number initiator event its is.away) apart
              (λ one at. subst (λ (r : RunRow). is_on i r.initiator ≡ false) (some-one other one (run_of desk.office.tables other.number) is.at (ap (run_of desk.office.tables) (sym job) ∙ at)) is.off);
          running = found-next row.number desk.office.tables event desk.running apart;
          mark = marked-next row.number event desk.failed apart;
        }

    done-left : (plan : Plan) → is_plan_by lodged other.number initiator plan ≡ true → IsLeft desk (done_by plan desk).desk i row
    done-left (Rest reply) its = record { on = on; running = refl; mark = refl }
    done-left (Tell reply event) its = event-left event (and-second (tells_beginning other.number reply event) _ its)
    done-left (Work job) its = record { on = on; running = refl; mark = refl }
    done-left (Pass job reply) its =
        record { on = on; running = found-changed row.number job (ap (λ n. n == row.number) (equal-true job other.number (and-second (is_none (begun reply)) (job == other.number) its)) ∙ is.apart) checkpoint_done desk.running; mark = refl }
    done-left (Take job) its = record { on = on; running = refl; mark = refl }
    done-left (Ask inquiry) its = record { on = on; running = refl; mark = refl }
    done-left (Wait job code) its =
        let apart : (job == row.number) ≡ false = ap (λ n. n == row.number) (equal-true job other.number its) ∙ is.apart in
        record { on = on; running = found-coded row.number job apart code desk.running; mark = marked-asked row.number job desk.failed }

    answered-left : (answer : Answer) (plan : Plan) → is_plan_by lodged other.number initiator plan ≡ true → IsLeft desk (answered answer plan desk).desk i row
    answered-left answer plan its = done-left (decide answer plan) (answered-by lodged other.number initiator answer plan its)

  module _ (desk : DeskModel) (numbered : (number : ℕ) (one : RunRow) → run_of desk.office.tables number ≡ Some one → one.number ≡ number) (on : run_on_initiator desk.office.tables i ≡ Some row) (initiator : ℕ) (is : IsAway desk i row other initiator true) where
    unit-left : (answer : Answer) (end : UnitEnd) → IsLeft desk (unit_done answer other end desk).desk i row
    unit-left answer end =
        let moved : DeskModel = with_progress other.number end.progress desk in
        let behind_it : IsLeft desk moved i row = moved-left desk on is.apart end.progress in
        left-twice desk moved (unit_done answer other end desk).desk i row behind_it
        (answered-left moved numbered on initiator true (record { at = is.at; off = is.off; apart = is.apart; away = is.away; lodges = is.lodges }) answer
        (unit_plan desk.layout (jobs_of moved) other (seen moved.office other.number end.progress) end.unit)
        (subst (λ n. is_plan_by true other.number n (unit_plan desk.layout (jobs_of moved) other (seen moved.office other.number end.progress) end.unit) ≡ true) (is.lodges refl)
        (unit-by desk.layout (jobs_of moved) other (seen moved.office other.number end.progress) end.unit)))

    entry-by : (tables : TablesModel) (start : StepStart) (progress : StepProgress) → option_map_or (is_event_by other.number initiator) (checkpoint_turn tables other start progress).event true ≡ true
    entry-by tables start progress =
        elim (suppresses (rd_in_effect other start.number)) as (λ b. option_map_or (is_event_by other.number initiator) (checkpoint_unless b tables other start progress).event true ≡ true) [
          | true ↦ refl
          | false ↦
              elim (checkpoint_fits tables.sets other start progress) as (λ b. option_map_or (is_event_by other.number initiator) (checkpoint_try b tables other start progress).event true ≡ true) [
                | true ↦ equal-itself other.number
                | false ↦ refl
              ]
        ]

    entered-left : (event : Option Event) (progress : StepProgress) → option_map_or (is_event_by other.number initiator) event true ≡ true → IsLeft desk (with_progress other.number progress (behind_entry event desk)) i row
    entered-left None progress its = moved-left desk on is.apart progress
    entered-left (Some event) progress its =
        let told : IsLeft desk (behind event None desk) i row = event-left desk numbered on initiator true is event its in
        left-twice desk (behind event None desk) (with_progress other.number progress (behind event None desk)) i row told (moved-left (behind event None desk) told.on is.apart progress)

  -- a plan that is carried out
  carried-left : (desk : DeskModel) → ((number : ℕ) (one : RunRow) → run_of desk.office.tables number ≡ Some one → one.number ≡ number) → run_on_initiator desk.office.tables i ≡ Some row → (initiator : ℕ) (lodged : Bool) → IsAway desk i row other initiator lodged → (answer : Answer) (plan : Plan) → is_plan_by lodged other.number initiator plan ≡ true → IsLeft desk (carried_out answer plan desk).desk i row
  carried-left desk numbered on initiator lodged is answer (Rest reply) its = done-left desk numbered on initiator lodged is (Rest reply) its
  carried-left desk numbered on initiator lodged is answer (Tell reply event) its = done-left desk numbered on initiator lodged is (Tell reply event) its
  carried-left desk numbered on initiator lodged is answer (Pass job reply) its = done-left desk numbered on initiator lodged is (Pass job reply) its
  carried-left desk numbered on initiator lodged is answer (Wait job code) its = done-left desk numbered on initiator lodged is (Wait job code) its
  carried-left desk numbered on initiator lodged is answer (Ask inquiry) its = answered-left desk numbered on initiator lodged is answer (Ask inquiry) its
  carried-left desk numbered on initiator true is answer (Work job) its =
      by-acting (λ done. IsLeft desk done.desk i row) desk other is.at (record { on = on; running = refl; mark = refl }) (λ one start progress. unit_done answer one (unit_end start progress) desk) (λ start progress. unit-left desk numbered on initiator is answer (unit_end start progress)) job (equal-true job other.number its)
  carried-left desk numbered on initiator true is answer (Take job) its =
      by-acting (λ done. IsLeft desk done.desk i row) desk other is.at (record { on = on; running = refl; mark = refl }) (λ one start progress. served_by one (checkpoint_turn desk.office.tables one start progress) desk)
      (λ start progress. entered-left desk numbered on initiator is (checkpoint_turn desk.office.tables other start progress).event (checkpoint_turn desk.office.tables other start progress).progress (entry-by desk numbered on initiator is desk.office.tables start progress)) job (equal-true job other.number its)
  carried-left desk numbered on initiator false is answer (Work job) its = absurd (false≢true its)
  carried-left desk numbered on initiator false is answer (Take job) its = absurd (false≢true its)

-- ---- whose volumes a plan wants

want-by : (lodged : Bool) (run initiator : ℕ) (plan : Plan) (want : ℕ × List Made) → is_plan_by lodged run initiator plan ≡ true → wants plan ≡ Some want → want.0 ≡ run
want-by lodged run initiator (Tell reply (StartedEvent job step items)) want its some = ap (λ (one : ℕ × List Made). one.0) (sym (same_Some _ _ some)) ∙ equal-true job run (and-second (tells_beginning run reply (StartedEvent job step items)) (job == run) its)
want-by lodged run initiator (Tell reply (CancelledEvent job)) want its some = ap (λ (one : ℕ × List Made). one.0) (sym (same_Some _ _ some)) ∙ equal-true job run (and-second (tells_beginning run reply (CancelledEvent job)) (job == run) its)
want-by lodged run initiator (Work job) want its some = ap (λ (one : ℕ × List Made). one.0) (sym (same_Some _ _ some)) ∙ equal-true job run (and-second lodged (job == run) its)
want-by lodged run initiator _ want its some = cc

wanting-row : (tables : TablesModel) (lodged : Bool) (row : RunRow) (initiator : ℕ) (plan : Plan) (step : Wanting) → run_of tables row.number ≡ Some row → is_plan_by lodged row.number initiator plan ≡ true → wanting tables plan ≡ Some step → step.row ≡ row
wanting-row tables lodged row initiator plan step at its some = by (wants plan) refl some
  where
    by-own : (want : ℕ × List Made) (own : Option OwnedStep) → option_map_or (λ owned. Some (let made : Wanting = record { sets = tables.sets; row = row; owned = owned; items = want.1 } in made)) own None ≡ Some step → step.row ≡ row
    by-own want None some = cc
    by-own want (Some owned) some = ap (λ (one : Wanting). one.row) (sym (same_Some _ _ some))

    by : (want : Option (ℕ × List Made)) → wants plan ≡ want → option_map_or (wanting_in tables) want None ≡ Some step → step.row ≡ row
    by None e some = cc
    by (Some want) e some =
        by-own want (own_step row)
        (sym
        (ap (λ (o : Option RunRow). option_map_or (λ row. option_map_or (λ owned. Some (let made : Wanting = record { sets = tables.sets; row = row; owned = owned; items = want.1 } in made)) (own_step row) None) o None)
        (ap (run_of tables) (want-by lodged row.number initiator plan want its e) ∙ at))
        ∙ some)

-- ---- any turn of another initiator

module _ (desk : DeskModel) (is : IsDesk desk) (i : ℕ) (row : RunRow) (on : run_on_initiator desk.office.tables i ≡ Some row) (one : MountedTurn) (answer : Answer) (away : (i == one.turn.initiator) ≡ false) where
  its_row : run_of desk.office.tables row.number ≡ Some row
  its_row = row_of_found desk.layout desk.office (λ other. is_on i other.initiator) row is.kept on

  -- a run that isn't on the initiator is another one
  others-apart : (other : RunRow) → run_of desk.office.tables other.number ≡ Some other → is_on i other.initiator ≡ false → (other.number == row.number) ≡ false
  others-apart other at off =
      bool-cases (other.number == row.number)
      (λ same.
      let mine : other ≡ row = some-one other row (run_of desk.office.tables row.number) (ap (run_of desk.office.tables) (sym (equal-true other.number row.number same)) ∙ at) its_row in
      absurd (false≢true (sym off ∙ ap (λ (r : RunRow). is_on i r.initiator) mine ∙ find-passes (λ (other : RunRow). is_on i other.initiator) desk.office.tables.runs row on)))
      (λ isnt. isnt)

  -- whatever becomes of the volumes
  mounted-left : (other : RunRow) (lodged : Bool) → IsAway desk i row other one.turn.initiator lodged → (plan : Plan) → is_plan_by lodged other.number one.turn.initiator plan ≡ true → IsLeft desk (carried_out answer (plan_by desk.layout desk.office.tables one.taking plan) desk).desk i row
  mounted-left other lodged its plan by =
      plan_by-cases (λ plan. IsLeft desk (carried_out answer plan desk).desk i row) desk.layout desk.office.tables plan
      (carried-left i row other desk is.kept.events.numbered on one.turn.initiator lodged its answer plan by)
      (λ step dd cause at.
      carried-left i row other desk is.kept.events.numbered on one.turn.initiator lodged its answer (allocation_ended step.row step.owned dd cause)
      (ap (λ (r : RunRow). r.number == other.number) (wanting-row desk.office.tables lodged other one.turn.initiator plan step its.at by at.wanted) ∙ equal-itself other.number))
      one.taking
      (λ need free. record { on = on; running = refl; mark = refl }) (λ awaited. record { on = on; running = refl; mark = refl })

  -- nothing changes by a plan that wants nothing
  rest-left : (reply : Reply) → IsLeft desk (carried_out answer (plan_by desk.layout desk.office.tables one.taking (Rest reply)) desk).desk i row
  rest-left reply = subst (λ plan. IsLeft desk (carried_out answer plan desk).desk i row) (sym (idle-stays desk.layout desk.office.tables one.taking (Rest reply) refl)) (record { on = on; running = refl; mark = refl })

  lodged-is : (o : Option ℕ) → is_on one.turn.initiator o ≡ true → o ≡ Some one.turn.initiator
  lodged-is None its = absurd (false≢true its)
  lodged-is (Some other) its = ap Some (sym (equal-true one.turn.initiator other its))

  -- its own run
  run-left : (other : RunRow) → run_on_initiator desk.office.tables one.turn.initiator ≡ Some other → IsLeft desk (carried_out answer (plan_by desk.layout desk.office.tables one.taking (run_plan desk.layout (jobs_of desk) one.turn.fail other)) desk).desk i row
  run-left other found =
      let at : run_of desk.office.tables other.number ≡ Some other = row_of_found desk.layout desk.office (λ other. is_on one.turn.initiator other.initiator) other is.kept found in
      let its : other.initiator ≡ Some one.turn.initiator = lodged-is other.initiator (find-passes (λ (other : RunRow). is_on one.turn.initiator other.initiator) desk.office.tables.runs other found) in
      let off : is_on i other.initiator ≡ false = ap (is_on i) its ∙ away in
      let lodges : initiator_of other ≡ one.turn.initiator = ap (λ (o : Option ℕ). option_map_or (λ initiator. initiator) o 0) its in
      mounted-left other true (record { at = at; off = off; apart = others-apart other at off; away = away; lodges = λ e. lodges }) (run_plan desk.layout (jobs_of desk) one.turn.fail other)
      (subst (λ n. is_plan_by true other.number n (run_plan desk.layout (jobs_of desk) one.turn.fail other) ≡ true) lodges (run-by desk.layout (jobs_of desk) other one.turn.fail))

  -- a run that comes to it, which is on none
  chosen-left : (other : RunRow) → next_run desk.office.tables ≡ Some other → IsLeft desk (carried_out answer (plan_by desk.layout desk.office.tables one.taking (chosen_plan desk.layout (jobs_of desk) one.turn.initiator other)) desk).desk i row
  chosen-left other next =
      let selects : RunRow → Bool = λ other. may_select desk.office.tables other.state other in
      let at : run_of desk.office.tables other.number ≡ Some other = row_of_found desk.layout desk.office selects other is.kept next in
      let lodged : (is_none other.initiator || is_on_one other.state) ≡ true = state-lodged other (state_found desk selects other is next) in
      let none : other.initiator ≡ None =
      is_none-true other.initiator
      (next_cases desk.office.tables other next
      (λ queued. sym (or-false (is_none other.initiator)) ∙ ap (λ (s : RunState). is_none other.initiator || is_on_one s) (sym queued) ∙ lodged)
      (λ released. sym (or-false (is_none other.initiator)) ∙ ap (λ (s : RunState). is_none other.initiator || is_on_one s) (sym released) ∙ lodged)) in
      let off : is_on i other.initiator ≡ false = ap (is_on i) none in
      mounted-left other false (record { at = at; off = off; apart = others-apart other at off; away = away; lodges = λ e. absurd (false≢true e) }) (chosen_plan desk.layout (jobs_of desk) one.turn.initiator other)
      (chosen-by desk.layout (jobs_of desk) other one.turn.initiator)

  free-left : (fail : Option Code) → IsLeft desk (carried_out answer (plan_by desk.layout desk.office.tables one.taking (free_plan desk.layout (jobs_of desk) one.turn.initiator fail)) desk).desk i row
  free-left (Some code) = rest-left _
  free-left None = by (next_run desk.office.tables) refl
    where
      by : (next : Option RunRow) → next_run desk.office.tables ≡ next → IsLeft desk (carried_out answer (plan_by desk.layout desk.office.tables one.taking (option_map_or (chosen_plan desk.layout (jobs_of desk) one.turn.initiator) next (Rest Idle))) desk).desk i row
      by None e = rest-left Idle
      by (Some other) e = chosen-left other e

  pub other-left : IsLeft desk (turn_of desk one answer).desk i row
  unfolding turn_of plan_of
  other-left = by (run_on_initiator desk.office.tables one.turn.initiator) refl
    where
      by : (found : Option RunRow) → run_on_initiator desk.office.tables one.turn.initiator ≡ found
          → IsLeft desk (carried_out answer (plan_by desk.layout desk.office.tables one.taking (option_map_or (run_plan desk.layout (jobs_of desk) one.turn.fail) found (free_plan desk.layout (jobs_of desk) one.turn.initiator one.turn.fail))) desk).desk i row
      by None e = free-left one.turn.fail
      by (Some other) e = run-left other e
