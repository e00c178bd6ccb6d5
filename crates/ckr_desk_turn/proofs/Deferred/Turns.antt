-- A turn that takes up a run with RESTART keeps the desk: it is denied by the first rule that holds, or goes on where the rules permit it.
use Rattle.std.proofs.Common.{◌≡◌, ℕ, zero, suc, true, false, ◌&&◌, cond, find, refl, ap, sym, ◌∙◌, subst, Option, Some, None}
use Rattle.std.specs.Prelude.{◌==◌}
use Rattle.std.specs.Option.{is_none, is_some, option_map_or}
use Rattle.std.proofs.lemmas.Bool.{and_from}
use Rattle.ckr_base.proofs.Numbers.{equal-itself}
use Rattle.ckr_base.proofs.Options.{is_none-true, some-not-none, some-one}
use Rattle.ckr_base.proofs.Sequences.{find-passes}
use Rattle.ckr_console.specs.declared.question.Answer.{Answer}
use Rattle.ckr_events.specs.declared.event.Event.TheVariants.{Denied as DeniedEvent, Selected as SelectedEvent}
use Rattle.ckr_jcl.specs.declared.deck.Restart.{Restart}
use Rattle.ckr_library.specs.NameMaps.{Name}
use Rattle.ckr_meaning.specs.declared.place.Place.TheVariants.{Opened, Within}
use Rattle.ckr_points.specs.declared.run.RunState.TheVariants.{Queued}
use Rattle.ckr_points.specs.Denials.{denial_of, tells_a_name}
use Rattle.ckr_points.specs.declared.denial.Denial.{Denial as DenialOfRestart}
use Rattle.ckr_points.specs.Follows.{is_free, is_in_state, may_hold, may_restart, selected_follows, state_number}
use Rattle.ckr_points.specs.Marks.{point_at}
use Rattle.ckr_points.specs.Restart.{kept_at, syschk_name}
use Rattle.ckr_points.specs.RuleCases.{Wanted, deferred_case, stale_denial, wanted_of}
use Rattle.ckr_points.specs.Rows.{KeptEntry, RunRow, run_of}
use Rattle.ckr_points.specs.Soundness.{deferred_rule, denying, serials}
use Rattle.ckr_points_invariant.specs.Restorability.{StandsAt}
use Rattle.ckr_points_invariant.specs.EarlierRuns.{MayContinue}
use Rattle.ckr_rules.specs.RuleTables.{deferred, rule_number}
use Rattle.ckr_rules.specs.declared.cases.Rule.{Rule}
use Rattle.ckr_rules.specs.declared.cases.Verdict.{Verdict}
use Rattle.ckr_rules.specs.declared.cases.Verdict.TheVariants.{Step, Checkpoint, Denied}
use Rattle.ckr_desk_turn.specs.declared.plan.Plan.TheVariants.{Rest}
use Rattle.ckr_points.specs.declared.reply.Reply.TheVariants.{DeniedRestart, Idle}
use Rattle.ckr_base.specs.declared.code.Code.{Code}
use Rattle.ckr_desk_turn.specs.declared.plan.Plan.{Plan}
use Rattle.ckr_desk_turn.specs.Codes.{code_plan, reached_by}
use Rattle.ckr_desk_turn.specs.Mounts.{plan_by}
use Rattle.ckr_desk_turn.specs.Plans.{chosen_plan, free_plan, plan_of, run_plan}
use Rattle.ckr_desk_turn.specs.Turns.{MountedTurn, carried_out, turn_of}
use Rattle.ckr_desk_turn.specs.Deferred.{queued_plan, continued_at_entry, continued_by, deferred_plan, deferred_verdict}
use Rattle.ckr_desk_turn.specs.Desk.{DeskModel, DeskStep, TurnDone, at_entry, behind, done_by, jobs_of, progress_of, progress_unless, without_run}
use Rattle.ckr_desk_turn.specs.Invariant.{IsDesk, IsGoing}
use Rattle.ckr_desk_turn.specs.NextEvents.{Comes}
use Rattle.ckr_desk_turn.specs.Permissions.{GoesOnAtEntry, GoesOnAtStart, IsJudgedNext}
use Rattle.ckr_desk_turn.specs.Restarts.{GoesOnBy}
use Rattle.ckr_desk_turn.specs.Select.{may_select}
use Rattle.ckr_desk_turn.proofs.Deferred.Desks.{denied-keeps, entry-goes, entry-going, entry-stands, its, running-from, start-goes, start-stands}
use Rattle.ckr_desk_turn.proofs.Deferred.Rules.{denial-named, denial-rule, denial-stale}
use Rattle.ckr_desk_turn.proofs.Deferred.Permissions.{IsEntryPermitted, IsStartPermitted, entry-permitted, start-permitted}
use Rattle.ckr_desk_turn.proofs.Mounts.{continued-wants, idle-stays}
use Rattle.ckr_desk_turn.proofs.NextEvents.BetweenSteps.{free-there, next_waits, row_of_found, state_found}
use Rattle.ckr_desk_turn.proofs.Opening.{has-runs}
use Rattle.ckr_desk_turn.proofs.OtherRuns.{state-code}
use Rattle.ckr_desk_turn.proofs.Readiness.{desk-kept}
use Rattle.ckr_desk_turn.proofs.Restart.Desks.{told-keeps}
use Rattle.ckr_desk_turn.proofs.Runs.Rows.{rows-of}
use Rattle.ckr_desk_turn.proofs.Select.{code_while}
use Rattle.ckr_desk_turn.proofs.Turns.WithinStep.{PlanKeeps}

module _ (desk : DeskModel) (is : IsDesk desk) (initiator : ℕ) (row : RunRow) (restart : Restart) (verdict : Verdict) (judged : IsJudgedNext desk initiator row restart verdict) where
  abbrev pub wanted : Wanted
  wanted = wanted_of row desk.office.tables restart

  at : run_of desk.office.tables row.number ≡ Some row
  at = row_of_found desk.layout desk.office (λ other. may_select desk.office.tables other.state other) row is.kept judged.next

  waits : is_in_state Queued row ≡ true
  waits = ap (λ s. state_number s == 1) judged.queued

  -- the rule that is told is the first one that holds
  pub first-rule : deferred_rule desk.layout desk.office.tables row ≡ denying verdict
  first-rule =
      ap (λ (o : Option Restart). option_map_or (λ restart. denying (deferred (deferred_case (serials desk.layout) row (wanted_of row desk.office.tables restart) desk.office.tables))) o 0) judged.has
      ∙ ap denying judged.judged

  denied-comes : (rule : Rule) (name : Option Name) → verdict ≡ Denied rule → Comes desk (DeniedEvent row.number (rule_number rule) name)
  denied-comes rule name denies = record {
    may =
        and_from _ _
        (ap (λ (o : Option RunRow). option_map_or (λ row. is_in_state Queued row && is_some row.deck.restart) o false) at ∙ and_from (is_in_state Queued row) (is_some row.deck.restart) waits (ap is_some judged.has))
        (ap (λ (o : Option RunRow). option_map_or (λ row. rule_number rule == deferred_rule desk.layout desk.office.tables row) o false) at
        ∙ ap (λ n. rule_number rule == n) (first-rule ∙ ap denying denies) ∙ equal-itself (rule_number rule));
    carried = refl;
  }

  -- the run is selected where it may be restarted so
  selected-comes : (earlier : ℕ) (id : Option Name) → may_restart desk.office.tables row restart earlier restart.step id ≡ true → Comes desk (SelectedEvent row.number initiator earlier restart.step id)
  selected-comes earlier id may = record {
    may =
        and_from _ true
        (ap (λ (o : Option RunRow). option_map_or (selected_follows desk.layout desk.office.tables initiator earlier restart.step id) o false) at
        ∙ and_from (is_in_state Queued row && is_free desk.layout desk.office.tables initiator && may_hold desk.office.tables row) _
        (and_from (is_in_state Queued row && is_free desk.layout desk.office.tables initiator) (may_hold desk.office.tables row)
        (and_from (is_in_state Queued row) (is_free desk.layout desk.office.tables initiator) waits (free-there desk.layout desk.office.tables initiator judged.above judged.below judged.free))
        (next_waits desk.office.tables row (find-passes (λ (other : RunRow). may_select desk.office.tables other.state other) desk.office.tables.runs row judged.next) judged.queued))
        (ap (λ (o : Option Restart). option_map_or (λ restart. may_restart desk.office.tables row restart earlier number id) o (earlier == 0 && number == 0 && is_none id)) judged.has ∙ may)) refl;
    carried = refl;
  }
    where
      number : ℕ
      number = restart.step

-- ---- denied

pub denied-goes : (desk : DeskModel) → IsDesk desk → (initiator : ℕ) (row : RunRow) (restart : Restart) (rule : Rule) (name : Option Name) → IsJudgedNext desk initiator row restart (Denied rule) → GoesOnBy desk (DeniedEvent row.number (rule_number rule) name)
denied-goes desk is initiator row restart rule name judged =
    denied-keeps desk is row (rule_number rule) name (at desk is initiator row restart (Denied rule) judged) judged.queued (denied-comes desk is initiator row restart (Denied rule) judged rule name refl)

-- ---- the run goes on

pub start-so : (desk : DeskModel) → IsDesk desk → (initiator : ℕ) (row : RunRow) (restart : Restart) → IsJudgedNext desk initiator row restart Step → GoesOnAtStart desk initiator row restart
start-so desk is initiator row restart judged =
    let permitted : IsStartPermitted desk.office row restart = start-permitted desk.layout desk.office (desk-kept desk is) row restart judged.judged in
    by permitted permitted.other.number refl permitted.other_at permitted.may
  where
    by : (permitted : IsStartPermitted desk.office row restart) (number : ℕ) → permitted.other.number ≡ number → run_of desk.office.tables number ≡ Some permitted.other → may_restart desk.office.tables row restart number restart.step None ≡ true → GoesOnAtStart desk initiator row restart
    by permitted zero same found may = absurd (some-not-none permitted.other (sym found))
    by permitted (suc before) same found may =
        let comes : Comes desk (SelectedEvent row.number initiator (suc before) restart.step None) = selected-comes desk is initiator row restart Step judged (suc before) None may in
        let continues : MayContinue desk.layout desk.office.tables row.number initiator (suc before) restart.step None = its desk is row.number initiator before restart.step None comes in
        let stands = start-stands desk is row.number initiator before restart.step comes in
        record {
          other = permitted.other;
          earlier = permitted.latest;
          goes = subst (λ n. GoesOnBy desk (SelectedEvent row.number initiator n restart.step None)) (sym same) (start-goes desk is row.number initiator before restart.step comes);
          point = continues.point;
          at_point = ap (λ (r : RunRow). point_at r.points restart.step) (some-one permitted.other continues.other (run_of desk.office.tables (suc before)) found continues.other_at) ∙ continues.at_point;
          own = stands.0;
          stands =
              subst (λ n. StandsAt (behind (SelectedEvent row.number initiator n restart.step None) None desk).office row.number stands.0 (Opened restart.step) continues.point.count) (sym same) stands.1;
        }

pub entry-so : (desk : DeskModel) → IsDesk desk → (initiator : ℕ) (row : RunRow) (restart : Restart) → IsJudgedNext desk initiator row restart Checkpoint → GoesOnAtEntry desk initiator row restart
entry-so desk is initiator row restart judged =
    let permitted : IsEntryPermitted desk.office row restart = entry-permitted desk.layout desk.office (desk-kept desk is) (rows-of desk.office (has-runs desk is)) row restart judged.judged in
    by permitted permitted.other.number refl permitted.other_at permitted.may
  where
    by : (permitted : IsEntryPermitted desk.office row restart) (number : ℕ) → permitted.other.number ≡ number → run_of desk.office.tables number ≡ Some permitted.other → may_restart desk.office.tables row restart number restart.step (Some permitted.entry.kept.id) ≡ true → GoesOnAtEntry desk initiator row restart
    by permitted zero same found may = absurd (some-not-none permitted.other (sym found))
    by permitted (suc before) same found may =
        let entry : KeptEntry = permitted.entry in
        let comes : Comes desk (SelectedEvent row.number initiator (suc before) restart.step (Some entry.kept.id)) = selected-comes desk is initiator row restart Checkpoint judged (suc before) (Some entry.kept.id) may in
        let continues : MayContinue desk.layout desk.office.tables row.number initiator (suc before) restart.step (Some entry.kept.id) = its desk is row.number initiator before restart.step (Some entry.kept.id) comes in
        let its_row : row ≡ continues.row = some-one row continues.row (run_of desk.office.tables row.number) (at desk is initiator row restart Checkpoint judged) continues.row_at in
        let kept_so : kept_at desk.office.tables.sets (syschk_name continues.row.deck) entry.kept.id ≡ Some entry = ap (λ (r : RunRow). kept_at desk.office.tables.sets (syschk_name r.deck) entry.kept.id) (sym its_row) ∙ permitted.found in
        let stands = entry-stands desk is row.number initiator before restart.step entry.kept.id comes entry kept_so in
        record {
          entry = entry;
          wanted = permitted.wanted;
          other = permitted.other;
          earlier = permitted.earlier;
          goes = subst (λ n. GoesOnBy desk (SelectedEvent row.number initiator n restart.step (Some entry.kept.id))) (sym same) (entry-goes desk is row.number initiator before restart.step entry.kept.id comes entry kept_so);
          own = stands.0;
          stands = subst (λ n. StandsAt (behind (SelectedEvent row.number initiator n restart.step (Some entry.kept.id)) None desk).office row.number stands.0 (Within restart.step entry.point.writes) entry.point.count) (sym same) stands.1;
          going = subst (λ n. IsGoing (behind (SelectedEvent row.number initiator n restart.step (Some entry.kept.id)) None desk).office (at_entry row.number entry.point)) (sym same) (entry-going desk is row.number initiator before restart.step entry.kept.id comes entry kept_so);
          running =
              subst (λ n. progress_of (behind (SelectedEvent row.number initiator n restart.step (Some entry.kept.id)) None desk) row.number ≡ Some (at_entry row.number entry.point).progress) (sym same)
              (ap (λ running. option_map_or (λ (step : DeskStep). progress_unless step.code step.progress) (find (λ (step : DeskStep). step.run == row.number) running) None) (running-from desk is row.number initiator before restart.step entry.kept.id comes entry kept_so)
              ∙ ap (λ b. option_map_or (λ (step : DeskStep). progress_unless step.code step.progress) (cond b (Some (at_entry row.number entry.point)) (find (λ (step : DeskStep). step.run == row.number) (without_run row.number desk.running))) None) (equal-itself row.number));
        }

-- ---- the turn

pub deferred-keeps : (answer : Answer) (desk : DeskModel) → IsDesk desk → (initiator : ℕ) (row : RunRow) (restart : Restart) → ((verdict : Verdict) → deferred_verdict desk.layout desk.office.tables row (wanted_of row desk.office.tables restart) ≡ verdict → IsJudgedNext desk initiator row restart verdict)
    → PlanKeeps answer desk (deferred_plan desk.layout desk.office.tables initiator row restart)
deferred-keeps answer desk is initiator row restart judges =
    by (deferred_verdict desk.layout desk.office.tables row (wanted_of row desk.office.tables restart)) refl
  where
    by : (verdict : Verdict) → deferred_verdict desk.layout desk.office.tables row (wanted_of row desk.office.tables restart) ≡ verdict → PlanKeeps answer desk (continued_by verdict desk.office.tables initiator row (wanted_of row desk.office.tables restart))
    by (Denied rule) judged =
        let denial : DenialOfRestart = denial_of row (wanted_of row desk.office.tables restart) desk.office.tables rule in
        let is_rule : denial.rule ≡ rule = denial-rule (serials desk.layout) row (wanted_of row desk.office.tables restart) desk.office.tables rule judged in
        told-keeps desk (DeniedRestart row.number denial) (DeniedEvent row.number (rule_number denial.rule) denial.name)
        (subst (λ rule. GoesOnBy desk (DeniedEvent row.number (rule_number rule) denial.name)) (sym is_rule) (denied-goes desk is initiator row restart rule denial.name (judges (Denied rule) judged)))
    by Step judged =
        let goes : GoesOnAtStart desk initiator row restart = start-so desk is initiator row restart (judges Step judged) in
        subst (λ (o : Option RunRow). PlanKeeps answer desk (continued_by Step desk.office.tables initiator row (let its : Wanted = record { number = restart.step; checkpoint = (wanted_of row desk.office.tables restart).checkpoint; entry = (wanted_of row desk.office.tables restart).entry; earlier = o; step = (wanted_of row desk.office.tables restart).step } in its))) (sym goes.earlier)
        (told-keeps desk _ (SelectedEvent row.number initiator goes.other.number restart.step None) goes.goes)
    by Checkpoint judged =
        let goes : GoesOnAtEntry desk initiator row restart = entry-so desk is initiator row restart (judges Checkpoint judged) in
        subst (λ (o : Option KeptEntry). PlanKeeps answer desk (option_map_or (continued_at_entry initiator row (wanted_of row desk.office.tables restart)) o (Rest Idle))) (sym goes.wanted)
        (subst (λ (o : Option RunRow). PlanKeeps answer desk (continued_at_entry initiator row (let its : Wanted = record { number = restart.step; checkpoint = (wanted_of row desk.office.tables restart).checkpoint; entry = (wanted_of row desk.office.tables restart).entry; earlier = o; step = (wanted_of row desk.office.tables restart).step } in its) goes.entry)) (sym goes.earlier)
        (told-keeps desk _ (SelectedEvent row.number initiator goes.other.number restart.step (Some goes.entry.kept.id)) goes.goes))

-- ---- what the turn comes to

module _ (desk : DeskModel) (is : IsDesk desk) (one : MountedTurn) (row : RunRow) (restart : Restart) (verdict : Verdict) (judged : IsJudgedNext desk one.turn.initiator row restart verdict) (unforced : one.turn.fail ≡ None) where
  uncoded : row.code ≡ None
  uncoded =
      is_none-true row.code
      (ap (λ s. code_while s row.code) (sym judged.queued) ∙ state-code row (state_found desk (λ other. may_select desk.office.tables other.state other) row is judged.next))

  planned : plan_of desk.layout (jobs_of desk) one.turn ≡ continued_by verdict desk.office.tables one.turn.initiator row (wanted_of row desk.office.tables restart)
  unfolding plan_of
  planned =
      ap (λ (o : Option RunRow). option_map_or (run_plan desk.layout (jobs_of desk) one.turn.fail) o (free_plan desk.layout (jobs_of desk) one.turn.initiator one.turn.fail)) judged.free
      ∙ ap (free_plan desk.layout (jobs_of desk) one.turn.initiator) unforced
      ∙ ap (λ (o : Option RunRow). option_map_or (chosen_plan desk.layout (jobs_of desk) one.turn.initiator) o (Rest Idle)) judged.next
      ∙ ap (λ (o : Option Code). elim o as (λ _. Plan) [
        | None ↦ queued_plan desk.layout desk.office.tables one.turn.initiator row row.deck.restart
        | Some code ↦ code_plan desk.layout desk.office.tables row one.turn.initiator false code (reached_by (jobs_of desk) row)
      ]) uncoded
      ∙ ap (queued_plan desk.layout desk.office.tables one.turn.initiator row) judged.has
      ∙ ap (λ verdict. continued_by verdict desk.office.tables one.turn.initiator row (wanted_of row desk.office.tables restart)) judged.judged

  -- nothing rests on the operator
  pub turn-judged : (answer : Answer) → turn_of desk one answer ≡ done_by (continued_by verdict desk.office.tables one.turn.initiator row (wanted_of row desk.office.tables restart)) desk
  unfolding turn_of
  turn-judged answer =
      ap (λ plan. carried_out answer (plan_by desk.layout desk.office.tables one.taking plan) desk) planned
      ∙ ap (λ plan. carried_out answer plan desk) (idle-stays desk.layout desk.office.tables one.taking _ (continued-wants desk.office.tables one.turn.initiator row (wanted_of row desk.office.tables restart) verdict))
      ∙ by verdict
    where
      at-entry : (entry : Option KeptEntry) → carried_out answer (option_map_or (continued_at_entry one.turn.initiator row (wanted_of row desk.office.tables restart)) entry (Rest Idle)) desk ≡ done_by (option_map_or (continued_at_entry one.turn.initiator row (wanted_of row desk.office.tables restart)) entry (Rest Idle)) desk
      at-entry None = refl
      at-entry (Some entry) = refl

      by : (verdict : Verdict) → carried_out answer (continued_by verdict desk.office.tables one.turn.initiator row (wanted_of row desk.office.tables restart)) desk ≡ done_by (continued_by verdict desk.office.tables one.turn.initiator row (wanted_of row desk.office.tables restart)) desk
      by (Denied rule) = refl
      by Step = refl
      by Checkpoint = at-entry (wanted_of row desk.office.tables restart).entry

-- ---- what a denial tells

module _ (desk : DeskModel) (is : IsDesk desk) (one : MountedTurn) (row : RunRow) (restart : Restart) (rule : Rule) (judged : IsJudgedNext desk one.turn.initiator row restart (Denied rule)) (unforced : one.turn.fail ≡ None) where
  abbrev denial : DenialOfRestart
  denial = denial_of row (wanted_of row desk.office.tables restart) desk.office.tables rule

  pub denied-told : (answer : Answer) → (turn_of desk one answer).event ≡ Some (DeniedEvent row.number (rule_number rule) denial.name)
  denied-told answer =
      ap (λ (done : TurnDone). done.event) (turn-judged desk is one row restart (Denied rule) judged unforced answer)
      ∙ ap (λ (rule : Rule). Some (DeniedEvent row.number (rule_number rule) denial.name)) (denial-rule (serials desk.layout) row (wanted_of row desk.office.tables restart) desk.office.tables rule judged.judged)

-- a rule on data sets is told of one that isn't fresh
pub named-told : (desk : DeskModel) (initiator : ℕ) (row : RunRow) (restart : Restart) (rule : Rule) → IsJudgedNext desk initiator row restart (Denied rule) → tells_a_name rule ≡ true
    → let wanted = wanted_of row desk.office.tables restart in let denial = denial_of row wanted desk.office.tables rule in (stale_denial row wanted desk.office.tables ≡ Some denial) × (denial.rule ≡ rule) × (is_some denial.name ≡ true)
named-told desk initiator row restart rule judged tells =
    let wanted : Wanted = wanted_of row desk.office.tables restart in
    let stale : stale_denial row wanted desk.office.tables ≡ Some (denial_of row wanted desk.office.tables rule) = denial-stale (serials desk.layout) row wanted desk.office.tables rule tells judged.judged in
    (stale, denial-rule (serials desk.layout) row wanted desk.office.tables rule judged.judged, denial-named row wanted desk.office.tables (denial_of row wanted desk.office.tables rule) stale)
