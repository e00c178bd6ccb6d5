-- What a run that ended leaves, behind turns in which it may have been restarted, held and released.
use Rattle.std.proofs.Common.{◌≡◌, ◌≤◌, ◌==◌, ◌&&◌, ℕ, zero, suc, true, false, cond, List, [], ◌∷◌, refl, sym, ◌∙◌, ap, subst, find, Option, Some, None, arith}
use Rattle.std.proofs.lemmas.Option.{none-some, same_Some}
use Rattle.std.specs.List.{AllByRecursion}
use Rattle.std.specs.Option.{option_map, option_map_or}
use Rattle.ckr_base.proofs.Bools.{and-first, bool-cases}
use Rattle.ckr_base.proofs.Numbers.{equal-true}
use Rattle.ckr_base.proofs.Options.{is_some-true, option-cases, some-one}
use Rattle.ckr_console.specs.declared.question.Answer.{Answer}
use Rattle.ckr_events.specs.declared.event.Ending.{Ending}
use Rattle.ckr_events.specs.declared.event.Event.{Event}
use Rattle.ckr_events.specs.declared.event.Event.TheVariants.{Ended, Selected}
use Rattle.ckr_library.specs.NameMaps.{Name, entry_at, taken_over}
use Rattle.ckr_meaning.specs.EffectiveJob.{Effective, is_among}
use Rattle.ckr_meaning.specs.JobRun.{job_run}
use Rattle.ckr_meaning.specs.StepRun.{StepStart}
use Rattle.ckr_meaning.specs.declared.place.Place.TheVariants.{Before}
use Rattle.ckr_points.specs.Events.{IsNext}
use Rattle.ckr_points.specs.Follows.{is_in_state, is_free, may_hold, selected_follows}
use Rattle.ckr_points.specs.Office.{Leg, Office, continued_leg, cut_of, leg_by, leg_of, library_after, office_after, plain_leg, with_leg}
use Rattle.ckr_points.specs.Restart.{after_event, spliced}
use Rattle.ckr_points.specs.Tables.{after_selected}
use Rattle.ckr_points.specs.Rows.{RunRow, TablesModel, run_of, with_run}
use Rattle.ckr_points.specs.Soundness.{may_come}
use Rattle.ckr_points.specs.declared.run.RunState.TheVariants.{On, Queued}
use Rattle.ckr_points_invariant.specs.Invariant.{AreAlike, IsFree, IsKept, set_shape}
use Rattle.ckr_points_invariant.specs.KeptEvents.{AreKept}
use Rattle.ckr_points_invariant.specs.EarlierRuns.{MayContinue}
use Rattle.ckr_points_invariant.proofs.Library.Entries.{at-taken_over}
use Rattle.ckr_points_invariant.proofs.Holders.Rows.{run-same}
use Rattle.ckr_points_invariant.proofs.Select.Holders.{leg_here, leg_there}
use Rattle.ckr_points_invariant.proofs.WaitingRuns.{follows-of, tested-run}
use Rattle.ckr_volumes.specs.declared.layout.Layout.{Layout}
use Rattle.ckr_desk_turn.specs.declared.plan.Plan.{Plan}
use Rattle.ckr_desk_turn.specs.declared.plan.Plan.TheVariants.{Rest, Tell, Work, Pass, Take, Ask, Wait}
use Rattle.ckr_points.specs.declared.reply.Reply.TheVariants.{Idle}
use Rattle.ckr_desk_turn.specs.Checkpoints.{checkpoint_turn}
use Rattle.ckr_desk_turn.specs.Desk.{DeskModel, TurnDone, done_by, jobs_of, progress_of, unit_done, with_progress, work_of}
use Rattle.ckr_desk_turn.specs.Inquiries.{decided}
use Rattle.ckr_desk_turn.specs.Invariant.{IsDesk, Keeps}
use Rattle.ckr_desk_turn.specs.NextEvents.{EventComes}
use Rattle.ckr_desk_turn.specs.Taken.{behind_entry, served_by, taken_of}
use Rattle.ckr_desk_turn.specs.Turns.{AnsweredTurn, BeginsOn, IsAnsweredTurnOf, MountedTurn, carried_out, desk_after, plan_for, turn_of}
use Rattle.ckr_desk_turn.specs.Units.{StepProgress, UnitEnd, unit_end}
use Rattle.ckr_desk_turn.proofs.Opening.{has-runs}
use Rattle.ckr_desk_turn.proofs.Readiness.{desk-kept}
use Rattle.ckr_desk_turn.proofs.Runs.Continuations.{Continues, IsRenewedOn, continued-row, continues-so}
use Rattle.ckr_desk_turn.proofs.Runs.Rows.{HasRows, rows-of}
use Rattle.ckr_desk_turn.proofs.Turns.Initiator.{turn-keeps}
use Rattle.ckr_desk_turn.proofs.Turns.Series.{next-keeps, turn-layout, turns-keep}
use Rattle.ckr_desk_turn.proofs.Deferred.Desks.{leg-number}
use Rattle.ckr_points.specs.Payload.{start_in_office}

-- ---- the office behind a turn is that behind its event

abbrev pub office_by : Option Event → Office → Office
office_by None office = office
office_by (Some event) office = office_after (event, None) office

abbrev pub IsBy : DeskModel → TurnDone → Type 0
IsBy desk done = done.desk.office ≡ office_by done.event desk.office

done-by : (plan : Plan) (desk : DeskModel) → IsBy desk (done_by plan desk)
done-by (Tell reply event) desk = refl
done-by _ desk = refl

unit-by : (answer : Answer) (row : RunRow) (end : UnitEnd) (desk : DeskModel) → IsBy desk (unit_done answer row end desk)
unit-by answer row end desk = done-by _ (with_progress row.number end.progress desk)

work-by : (answer : Answer) (run : ℕ) (desk : DeskModel) → IsBy desk (work_of answer run desk)
work-by answer run desk = by-row (run_of desk.office.tables run)
  where
    by-progress : (row : RunRow) (start : StepStart) (progress : Option StepProgress) → IsBy desk (option_map_or (λ progress. unit_done answer row (unit_end start progress) desk) progress (done_by (Rest Idle) desk))
    by-progress row start None = refl
    by-progress row start (Some progress) = unit-by answer row (unit_end start progress) desk

    by-start : (row : RunRow) (start : Option StepStart) → IsBy desk (option_map_or (λ start. option_map_or (λ progress. unit_done answer row (unit_end start progress) desk) (progress_of desk run) (done_by (Rest Idle) desk)) start (done_by (Rest Idle) desk))
    by-start row None = refl
    by-start row (Some start) = by-progress row start (progress_of desk run)

    by-row : (row : Option RunRow) → IsBy desk (option_map_or (λ row. option_map_or (λ start. option_map_or (λ progress. unit_done answer row (unit_end start progress) desk) (progress_of desk run) (done_by (Rest Idle) desk)) (start_in_office desk.office row) (done_by (Rest Idle) desk)) row (done_by (Rest Idle) desk))
    by-row None = refl
    by-row (Some row) = by-start row (start_in_office desk.office row)

entry-by : (event : Option Event) (desk : DeskModel) → (behind_entry event desk).office ≡ office_by event desk.office
entry-by None desk = refl
entry-by (Some event) desk = refl

taken-by : (run : ℕ) (desk : DeskModel) → IsBy desk (taken_of run desk)
taken-by run desk = by-row (run_of desk.office.tables run)
  where
    by-progress : (row : RunRow) (start : StepStart) (progress : Option StepProgress) → IsBy desk (option_map_or (λ progress. served_by row (checkpoint_turn desk.office.tables row start progress) desk) progress (done_by (Rest Idle) desk))
    by-progress row start None = refl
    by-progress row start (Some progress) = entry-by (checkpoint_turn desk.office.tables row start progress).event desk

    by-start : (row : RunRow) (start : Option StepStart) → IsBy desk (option_map_or (λ start. option_map_or (λ progress. served_by row (checkpoint_turn desk.office.tables row start progress) desk) (progress_of desk run) (done_by (Rest Idle) desk)) start (done_by (Rest Idle) desk))
    by-start row None = refl
    by-start row (Some start) = by-progress row start (progress_of desk run)

    by-row : (row : Option RunRow) → IsBy desk (option_map_or (λ row. option_map_or (λ start. option_map_or (λ progress. served_by row (checkpoint_turn desk.office.tables row start progress) desk) (progress_of desk run) (done_by (Rest Idle) desk)) (start_in_office desk.office row) (done_by (Rest Idle) desk)) row (done_by (Rest Idle) desk))
    by-row None = refl
    by-row (Some row) = by-start row (start_in_office desk.office row)

plan-by : (answer : Answer) (plan : Plan) (desk : DeskModel) → IsBy desk (carried_out answer plan desk)
plan-by answer (Rest reply) desk = refl
plan-by answer (Tell reply event) desk = refl
plan-by answer (Work job) desk = work-by answer job desk
plan-by answer (Pass job reply) desk = refl
plan-by answer (Take job) desk = taken-by job desk
plan-by answer (Ask inquiry) desk = done-by (decided answer inquiry) desk
plan-by answer (Wait job code) desk = refl

pub turn-by : (desk : DeskModel) (one : MountedTurn) (answer : Answer) → IsBy desk (turn_of desk one answer)
unfolding turn_of
turn-by desk one answer = plan-by answer (plan_for desk.layout (jobs_of desk) one) desk

-- ---- the leg of a run stays from its selection on

module _ (layout : Layout) (office : Office) (kept : IsKept layout office) (number : ℕ) (leg : Leg) (led : leg_of office number ≡ Some leg) where
  -- a run that is selected has no leg yet, and so is another one
  selected-apart : (job initiator earlier step : ℕ) (id : Option Name) → may_come layout office (Selected job initiator earlier step id, None) ≡ true → (job == number) ≡ false
  selected-apart job initiator earlier step id may = bool-cases (job == number) (λ same. absurd (none-some leg (sym (alone-at same) ∙ led))) (λ apart. apart)
    where
      alone-at : (job == number) ≡ true → leg_of office number ≡ None
      alone-at same =
          tested-run office.tables job (selected_follows layout office.tables initiator earlier step id) (follows-of layout office (Selected job initiator earlier step id) None may)
          (λ row e passes.
          let queued : is_in_state Queued row ≡ true =
          and-first (is_in_state Queued row) (is_free layout office.tables initiator)
          (and-first (is_in_state Queued row && is_free layout office.tables initiator) (may_hold office.tables row)
          (and-first (is_in_state Queued row && is_free layout office.tables initiator && may_hold office.tables row) _ passes)) in
          let its : row.number ≡ job = kept.events.numbered job row e in
          let alone : leg_of office row.number ≡ None = (kept.events.waiting job row e queued).alone in
          ap (leg_of office) (sym (its ∙ equal-true job number same)) ∙ alone)

  module _ (now : IsKept layout office) where
    chosen-led : (job initiator earlier step : ℕ) (id : Option Name) → may_come layout office (Selected job initiator earlier step id, None) ≡ true
        → IsKept layout (office_after (Selected job initiator earlier step id, None) office) → leg_of (office_after (Selected job initiator earlier step id, None) office) number ≡ Some leg
    chosen-led job initiator earlier step id may later =
        option-cases (run_of tables job)
        (λ none. ap (λ (o : Option RunRow). find (λ (one : Leg). one.number == number) (option_map_or (λ row. with_leg (leg_by office row row.earlier) office.legs) o office.legs)) none ∙ led)
        (λ row at.
        let its : (leg_by office row row.earlier).number ≡ job = leg-number office row row.earlier ∙ later.events.numbered job row at in
        let apart : ((leg_by office row row.earlier).number == number) ≡ false = ap (λ n. n == number) its ∙ selected-apart job initiator earlier step id may in
        ap (λ (o : Option RunRow). find (λ (one : Leg). one.number == number) (option_map_or (λ row. with_leg (leg_by office row row.earlier) office.legs) o office.legs)) at
        ∙ leg_there (leg_by office row row.earlier) number office.legs apart ∙ led)
      where
        tables : TablesModel
        tables = after_event (Selected job initiator earlier step id) None office.tables

  pub event-led : (event : Event) → may_come layout office (event, None) ≡ true → IsKept layout (office_after (event, None) office) → leg_of (office_after (event, None) office) number ≡ Some leg
  event-led (Selected job initiator earlier step id) may then = chosen-led kept job initiator earlier step id may then
  event-led (Ended job ending) may later = led
  event-led _ may later = led

-- so it stays behind a turn, and behind turns
module _ (number : ℕ) (leg : Leg) where
  turn-led : (desk : DeskModel) (one : AnsweredTurn) → IsDesk desk → IsAnsweredTurnOf desk.layout one → leg_of desk.office number ≡ Some leg → leg_of (turn_of desk one.turn one.answer).desk.office number ≡ Some leg
  turn-led desk one is its led = by (turn_of desk one.turn one.answer).event refl
    where
      keeps : Keeps desk (turn_of desk one.turn one.answer)
      keeps = turn-keeps desk one.turn one.answer is its.above its.below

      so : (event : Option Event) → (turn_of desk one.turn one.answer).event ≡ event → (turn_of desk one.turn one.answer).desk.office ≡ office_by event desk.office
      so event e = turn-by desk one.turn one.answer ∙ ap (λ event. office_by event desk.office) e

      by : (event : Option Event) → (turn_of desk one.turn one.answer).event ≡ event → leg_of (turn_of desk one.turn one.answer).desk.office number ≡ Some leg
      by None e = ap (λ office. leg_of office number) (so None e) ∙ led
      by (Some event) e =
          ap (λ office. leg_of office number) (so (Some event) e)
          ∙ event-led desk.layout desk.office is.kept number leg led event
          (subst (EventComes desk) e keeps.comes).may
          (subst (IsKept desk.layout) (so (Some event) e) (subst (λ layout. IsKept layout (turn_of desk one.turn one.answer).desk.office) (turn-layout desk one.turn one.answer) keeps.kept.kept))

  pub turns-led : (turns : List AnsweredTurn) (desk : DeskModel) → IsDesk desk → AllByRecursion (IsAnsweredTurnOf desk.layout) turns → leg_of desk.office number ≡ Some leg → leg_of (desk_after turns desk).office number ≡ Some leg
  turns-led [] desk is each led = led
  turns-led (one ∷ rest) desk is each led =
      turns-led rest (turn_of desk one.turn one.answer).desk (turn-keeps desk one.turn one.answer is each.0.above each.0.below).kept
      (subst (λ layout. AllByRecursion (IsAnsweredTurnOf layout) rest) (sym (turn-layout desk one.turn one.answer)) each.1)
      (turn-led desk one is each.0 led)

-- it is that of the run's own deck, from what the ended jobs had left
selected-leg : (layout : Layout) (office : Office) → IsKept layout office → (job initiator step : ℕ) (id : Option Name) → may_come layout office (Selected job initiator 0 step id, None) ≡ true
    → (row : RunRow) → run_of (office_after (Selected job initiator 0 step id, None) office).tables job ≡ Some row → leg_of (office_after (Selected job initiator 0 step id, None) office) job ≡ Some (plain_leg office row)
selected-leg layout office kept job initiator step id may row at =
    tested-run office.tables job (selected_follows layout office.tables initiator 0 step id) (follows-of layout office (Selected job initiator 0 step id) None may)
    (λ old e passes.
    let queued : is_in_state Queued old ≡ true =
    and-first (is_in_state Queued old) (is_free layout office.tables initiator)
    (and-first (is_in_state Queued old && is_free layout office.tables initiator) (may_hold office.tables old)
    (and-first (is_in_state Queued old && is_free layout office.tables initiator && may_hold office.tables old) _ passes)) in
    let next : RunRow = record old { state = On; initiator = Some initiator; place = Some (Before 1) } in
    let its : old.number ≡ job = kept.events.numbered job old e in
    let there : run_of (with_run next office.tables) job ≡ Some next = run-same office.tables next old job e its in
    let changed : Option RunRow → TablesModel = λ o. option_map_or (λ (one : RunRow). after_selected one initiator office.tables) o office.tables in
    let same : next ≡ row = same_Some next row (sym there ∙ ap (λ o. run_of (changed o) job) (sym e) ∙ at) in
    let alone : find (λ (one : Leg). one.number == old.number) office.legs ≡ None = (kept.events.waiting job old e queued).alone in
    subst (λ row. leg_of (office_after (Selected job initiator 0 step id, None) office) job ≡ Some (plain_leg office row)) same
    (ap (λ o. find (λ (one : Leg). one.number == job) (option_map_or (λ (row : RunRow). with_leg (leg_by office row row.earlier) office.legs) (run_of (changed o) job) office.legs)) e
    ∙ ap (λ (o : Option RunRow). find (λ (one : Leg). one.number == job) (option_map_or (λ (row : RunRow). with_leg (leg_by office row row.earlier) office.legs) o office.legs)) there
    ∙ ap (λ earlier. find (λ (one : Leg). one.number == job) (with_leg (leg_by office next earlier) office.legs)) (kept.events.waiting job old e queued).earlier
    ∙ subst (λ n. find (λ (one : Leg). one.number == n) (with_leg (plain_leg office next) office.legs) ≡ Some (plain_leg office next)) its (leg_here (plain_leg office next) office.legs alone)))

pub selected-led : (desk : DeskModel) (one : AnsweredTurn) (row : RunRow) (initiator : ℕ) → IsDesk desk → IsAnsweredTurnOf desk.layout one → (turn_of desk one.turn one.answer).event ≡ Some (Selected row.number initiator 0 0 None)
    → run_of (turn_of desk one.turn one.answer).desk.office.tables row.number ≡ Some row → leg_of (turn_of desk one.turn one.answer).desk.office row.number ≡ Some (plain_leg desk.office row)
selected-led desk one row initiator is its told at =
    ap (λ office. leg_of office row.number) so
    ∙ selected-leg desk.layout desk.office is.kept row.number initiator 0 None (subst (EventComes desk) told (turn-keeps desk one.turn one.answer is its.above its.below).comes).may row (ap (λ office. run_of office.tables row.number) (sym so) ∙ at)
  where
    so : (turn_of desk one.turn one.answer).desk.office ≡ office_after (Selected row.number initiator 0 0 None, None) desk.office
    so = turn-by desk one.turn one.answer ∙ ap (λ event. office_by event desk.office) told

-- that of a run that continues another one is of both decks, from what the other one began on
module _ (layout : Layout) (office : Office) (are : AreKept layout office) (has : HasRows office) (row : RunRow) (initiator before step : ℕ) (id : Option Name) (next : IsNext layout office (Selected row.number initiator (suc before) step id, None))
    (at : run_of (office_after (Selected row.number initiator (suc before) step id, None) office).tables row.number ≡ Some row) where
  abbrev behind : Office
  behind = office_after (Selected row.number initiator (suc before) step id, None) office

  its : MayContinue layout office.tables row.number initiator (suc before) step id
  its = continues-so layout office row.number initiator before step id None next

  row-continues : Continues row its.other step
  row-continues =
      let renewed : IsRenewedOn office.tables behind.tables row.number its.other step = continued-row layout office are has row.number initiator before step id None its in
      subst (λ row. Continues row its.other step) (some-one renewed.renewed.next row (run_of behind.tables row.number) renewed.renewed.stands.mine at) renewed.continues

  -- it waited, so it had no leg
  unled : leg_of office row.number ≡ None
  unled = ap (leg_of office) (sym (are.kept.events.numbered row.number its.row its.row_at)) ∙ (are.kept.events.waiting row.number its.row its.row_at its.queued).alone

  module _ (other : Leg) (led : leg_of office (suc before) ≡ Some other) where
    leg-continues : leg_by office row row.earlier ≡ continued_leg office row other
    leg-continues =
        ap (leg_by office row) (row-continues.earlier ∙ are.kept.events.numbered (suc before) its.other its.other_at)
        ∙ ap (λ (o : Option Leg). option_map_or (continued_leg office row) o (plain_leg office row)) led

    leg-behind : leg_of behind row.number ≡ Some (continued_leg office row other)
    leg-behind =
        ap (λ (o : Option RunRow). find (λ (one : Leg). one.number == row.number) (option_map_or (λ (one : RunRow). with_leg (leg_by office one one.earlier) office.legs) o office.legs)) at
        ∙ ap (λ (leg : Leg). find (λ (one : Leg). one.number == row.number) (with_leg leg office.legs)) leg-continues
        ∙ leg_here (continued_leg office row other) office.legs unled

    -- the earlier run's leg has its job
    job-continues : row.job ≡ spliced other.job step row.number row.deck
    job-continues = row-continues.job ∙ ap (λ (job : Effective). spliced job step row.number row.deck) (sym (are.begun.runs (suc before) its.other other its.other_at led).job)

  continued-begins : BeginsOn office behind row (suc before) step
  continued-begins =
      is_some-true (leg_of office (suc before)) (are.begun.led (suc before) its.other its.other_at its.selected)
      (λ other led. record { other = other; led = led; at_step = row-continues.at_step; job = job-continues other led; begins = leg-behind other led })

pub continued-led : (desk : DeskModel) (one : AnsweredTurn) (row : RunRow) (initiator earlier step : ℕ) (id : Option Name) → IsDesk desk → IsAnsweredTurnOf desk.layout one → 1 ≤ earlier → (turn_of desk one.turn one.answer).event ≡ Some (Selected row.number initiator earlier step id)
    → run_of (turn_of desk one.turn one.answer).desk.office.tables row.number ≡ Some row → BeginsOn desk.office (turn_of desk one.turn one.answer).desk.office row earlier step
continued-led desk one row initiator zero step id is its above told at = absurd (omega (arith, above))
continued-led desk one row initiator (suc before) step id is its above told at =
    subst (λ office. BeginsOn desk.office office row (suc before) step) (sym so)
    (continued-begins desk.layout desk.office (desk-kept desk is) (rows-of desk.office (has-runs desk is)) row initiator before step id (subst (EventComes desk) told (turn-keeps desk one.turn one.answer is its.above its.below).comes)
    (ap (λ office. run_of office.tables row.number) (sym so) ∙ at))
  where
    so : (turn_of desk one.turn one.answer).desk.office ≡ office_after (Selected row.number initiator (suc before) step id, None) desk.office
    so = turn-by desk one.turn one.answer ∙ ap (λ event. office_by event desk.office) told

-- ---- what it leaves

module _ (layout : Layout) (office : Office) (row : RunRow) (leg : Leg) (ending : Ending) where
  left-at : IsKept layout office → run_of office.tables row.number ≡ Some row → leg_of office row.number ≡ Some leg → (name : Name) → is_among leg.reach name ≡ true
      → entry_at (office_after (Ended row.number ending, None) office).library name ≡ entry_at (job_run leg.job leg.start (cut_of row ending)) name
  left-at kept at led name among =
      ap (λ (o : Option RunRow). entry_at (option_map_or (λ row. library_after office row ending) o office.library) name) at
      ∙ ap (λ (o : Option Leg). entry_at (option_map_or (λ leg. taken_over leg.reach (job_run leg.job leg.start (cut_of row ending)) office.library) o office.library) name) led
      ∙ at-taken_over leg.reach (job_run leg.job leg.start (cut_of row ending)) office.library name
      ∙ ap (λ b. cond b (entry_at (job_run leg.job leg.start (cut_of row ending)) name) (entry_at office.library name)) among

module _ (turns : List AnsweredTurn) (last : AnsweredTurn) (desk : DeskModel) (row : RunRow) (leg : Leg) (ending : Ending) (name : Name) (is : IsDesk desk) (each : AllByRecursion (IsAnsweredTurnOf desk.layout) turns) (its : IsAnsweredTurnOf desk.layout last)
    (led : leg_of desk.office row.number ≡ Some leg) (at : run_of (desk_after turns desk).office.tables row.number ≡ Some row) (told : (turn_of (desk_after turns desk) last.turn last.answer).event ≡ Some (Ended row.number ending))
    (among : is_among leg.reach name ≡ true) where
  -- in the library of the ended jobs
  pub ended-library : entry_at (turn_of (desk_after turns desk) last.turn last.answer).desk.office.library name ≡ entry_at (job_run leg.job leg.start (cut_of row ending)) name
  ended-library =
      ap (λ office. entry_at office.library name) (turn-by (desk_after turns desk) last.turn last.answer ∙ ap (λ event. office_by event (desk_after turns desk).office) told)
      ∙ left-at (desk_after turns desk).layout (desk_after turns desk).office row leg ending (turns-keep turns desk is each).kept at (turns-led row.number leg turns desk is each led) name among

  -- and in the tables, where no run holds the name
  pub ended-leaves : IsFree (turn_of (desk_after turns desk) last.turn last.answer).desk.office name → AreAlike (turn_of (desk_after turns desk) last.turn last.answer).desk.office.tables.sets (job_run leg.job leg.start (cut_of row ending)) name
  ended-leaves free = (next-keeps turns last.turn last.answer desk is each its).kept.kept.events.free name free ∙ ap (option_map set_shape) ended-library
