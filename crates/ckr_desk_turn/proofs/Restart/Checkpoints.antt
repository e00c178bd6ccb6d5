-- A run that is restarted at its checkpoint: its row, where it stands, and its running step behind the entry.
use Rattle.std.proofs.Common.{◌≡◌, ◌≤◌, ℕ, true, not, ◌||◌, length, refl, ap, sym, ◌∙◌, subst, Option, Some, None, arith}
use Rattle.std.specs.Prelude.{◌==◌, nat_le}
use Rattle.std.specs.Option.{is_some, option_map_or}
use Rattle.std.proofs.lemmas.Bool.{or_right}
use Rattle.ckr_base.specs.declared.code.Code.{Code}
use Rattle.ckr_base.proofs.Bools.{and-first, and-second}
use Rattle.ckr_base.proofs.Numbers.{equal-true, nat_le-true}
use Rattle.ckr_base.proofs.Options.{is_some-true, some-one}
use Rattle.ckr_library.specs.NameMaps.{Named}
use Rattle.ckr_meaning.specs.EffectiveJob.{OwnedStep}
use Rattle.ckr_meaning.specs.JobRun.{start_at}
use Rattle.ckr_meaning.specs.Program.{records_taken, upto}
use Rattle.ckr_meaning.specs.StepRun.{StepStart, case_at, work_at}
use Rattle.ckr_meaning.specs.declared.place.Place.TheVariants.{Within}
use Rattle.ckr_points.specs.Events.{IsNext}
use Rattle.ckr_points.specs.Follows.{is_running, is_within, own_step}
use Rattle.ckr_points.specs.Office.{Leg, Office, leg_of, office_after}
use Rattle.ckr_points.specs.Payload.{carries_taken, writes_in}
use Rattle.ckr_points.specs.Restart.{kept_at, place_of, step_in}
use Rattle.ckr_points.specs.Rows.{EffectPoint, EntryPoint, KeptEntry, RunRow, TableSet}
use Rattle.ckr_points_invariant.specs.Invariant.{step_now}
use Rattle.ckr_points_invariant.specs.Readiness.{IsCheck}
use Rattle.ckr_points_invariant.specs.Restorability.{AreEntriesRestorable, IsRestorable, StandsAt}
use Rattle.ckr_points_invariant.proofs.Holders.Rows.{run-other}
use Rattle.ckr_points_invariant.proofs.Readiness.Office.{entries-restorable}
use Rattle.ckr_points_invariant.proofs.Readiness.Runs.{kept-entry}
use Rattle.ckr_points_invariant.proofs.Restart.Event.{RestartsNow, at-step, entry-stands, holder-entry, restarts-now, row_back, sets_then_back, to-entry}
use Rattle.ckr_points_invariant.proofs.Restart.Verdicts.{check-there, check-unwritten}
use Rattle.ckr_points_invariant.proofs.Steps.Commits.{under_way}
use Rattle.ckr_rules.specs.declared.cases.Verdict.TheVariants.{Checkpoint}
use Rattle.ckr_volumes.specs.declared.layout.Layout.{Layout}
use Rattle.ckr_desk_turn.specs.Desk.{at_entry}
use Rattle.ckr_desk_turn.specs.Invariant.{IsAdmitted, IsGoing, IsOpen, has_its_step, is_off, is_in_its_state}
use Rattle.ckr_desk_turn.specs.Jobs.{effect_entry}
use Rattle.ckr_desk_turn.specs.Restarts.{restart_of}
use Rattle.ckr_desk_turn.proofs.OtherRuns.{Changes}
use Rattle.ckr_desk_turn.proofs.Restart.Events.{MayRestart, by-run, here, judged-so, restart-comes}
use Rattle.ckr_desk_turn.proofs.RunningSteps.{nothing-between}
use Rattle.ckr_points_invariant.specs.KeptEvents.{AreKept}
use Rattle.ckr_points_invariant.specs.RunningSteps.{IsRunning, its_start}

-- behind the records taken and the writes that an entry tells
pub open-so : (start : StepStart) (point : EntryPoint) → carries_taken point.taken point.writes start ≡ true → IsOpen start (at_entry 0 point).progress
open-so start point told = record {
  taken = nat_le-true point.taken (records_taken (case_at start)) (and-first (nat_le point.taken (records_taken (case_at start))) (point.writes == length (upto (case_at start) point.taken)) told);
  writes = equal-true point.writes (length (upto (case_at start) point.taken)) (and-second (nat_le point.taken (records_taken (case_at start))) (point.writes == length (upto (case_at start) point.taken)) told);
}

-- the row of the run changes to one of the same deck, and its step goes on behind the entry of its checkpoint in effect
pub record IsBack (office after : Office) (row : RunRow) : Type 0 where
  pub next : RunRow
  pub changes : Changes office after row.number next
  pub in_state : is_in_its_state next ≡ true
  pub admitted : IsAdmitted row → IsAdmitted next
  pub stepped : has_its_step next ≡ true
  pub entry : KeptEntry
  pub there : effect_entry office.tables row ≡ Some entry
  pub going : IsGoing after (at_entry row.number entry.point)

module _ (layout : Layout) (office : Office) (are : AreKept layout office) (row : RunRow) (initiator : ℕ) (code : Code) (its : MayRestart layout office row initiator code Checkpoint) where
  abbrev after : Office
  after = office_after (restart_of row initiator code true, None) office

  comes : IsNext layout office (restart_of row initiator code true, None)
  comes = restart-comes layout office are row initiator code Checkpoint its true refl

  can : AreEntriesRestorable office
  can = entries-restorable office are.ready

  -- ---- its entry

  module _ (leg : Leg) (owned : OwnedStep) (running : IsRunning office row.number row leg owned its.on.number its.on.committed) (found : own_step row ≡ Some owned) (same : its.on.start ≡ its_start leg owned its.on.number) (effect : EffectPoint) (got : row.in_effect ≡ Some effect) where
    check : IsCheck office.tables.sets row leg effect
    check = (are.ready.runs row.number row leg running.holder).check effect (ap is_within its.on.held.place) got

    there : kept_at office.tables.sets effect.set effect.kept.id ≡ Some check.entry
    there = kept-entry office.tables.sets effect.set effect.kept.id check.entry check.keeps

    starts : start_at leg.job leg.start (step_now row) ≡ Some its.on.start
    starts = sym (ap (λ (o : Option Leg). option_map_or (λ leg. start_at leg.job leg.start (step_in (place_of row))) o None) running.holder.leg_at) ∙ its.on.held.start_at

    restorable : IsRestorable row leg check.entry.point.writes
    restorable = check.since (check-unwritten row (step_now row) layout.eligible.items code effect got (judged-so layout office are row initiator code Checkpoint its true refl))

    -- its writes had space
    fit-so : check.entry.point.writes ≤ length (work_at its.on.start).writes
    fit-so =
        let below : check.entry.point.writes ≤ its.on.committed = subst (λ n. check.entry.point.writes ≤ n) (ap writes_in its.on.held.place) restorable.behind in
        let done : its.on.committed ≤ length (work_at its.on.start).writes = subst (λ s. its.on.committed ≤ length (work_at s).writes) (sym same) (under_way layout office row.number row leg owned its.on.number its.on.committed are.kept.events running).done in
        omega (arith, below, done)

    now : RestartsNow layout office row.number initiator code None are.kept.events are.pointed row leg true
    now = restarts-now layout office row.number initiator code None are.kept.events are.pointed true row leg running.holder comes.may comes.carried

    abbrev next : RunRow
    next = row_back layout office row.number initiator code None are.kept.events are.pointed can row leg now owned found effect got check.entry there

    abbrev sets : Named TableSet
    sets = sets_then_back layout office row.number initiator code None are.kept.events are.pointed can row leg now owned found effect got check.entry there

    run-back : IsBack office after row
    run-back =
        let holder = holder-entry layout office row.number initiator code None are.kept.events are.pointed can row leg now owned found effect got check.entry there in
        let opened : IsOpen its.on.start (at_entry 0 check.entry.point).progress = open-so its.on.start check.entry.point (check.taken its.on.start starts) in
        at-step layout office row.number initiator code None are.kept.events are.pointed true (λ (later : Office). IsBack office later row) row its.on.held.row_at (Some owned) found
        (to-entry layout office row.number initiator code None are.kept.events are.pointed can row leg now owned found effect got check.entry there (λ (later : Office). IsBack office later row)
        (record {
          next = next;
          changes = record { mine = holder.row_at; others = λ other apart. run-other (record office.tables { sets = sets }) next other apart; legs = refl };
          in_state = refl;
          admitted = λ was. record { cards = was.cards; accepted = was.accepted; steps = was.steps; named = was.named; lodged = refl };
          stepped = or_right (not (is_running next || is_off next.state)) (is_some (own_step next)) (ap is_some found);
          entry = check.entry;
          there = ap (λ (o : Option EffectPoint). option_map_or (λ effect. kept_at office.tables.sets effect.set effect.kept.id) o None) got ∙ there;
          going = record {
            row = next;
            row_at = holder.row_at;
            on = refl;
            number = its.on.number;
            committed = check.entry.point.writes;
            place = ap (λ place. Some (Within (step_in place) check.entry.point.writes)) its.on.held.place;
            start = its.on.start;
            start_at = its.on.held.start_at;
            fit = fit-so;
            behind = omega arith;
            plain = nothing-between its.on.start check.entry.point.writes;
            come = record { taken = opened.taken; writes = opened.writes };
          };
        }))

  -- the checkpoint in effect
  by-effect : {A : Type 0} → ((effect : EffectPoint) → row.in_effect ≡ Some effect → A) → A
  by-effect use_it = is_some-true row.in_effect (check-there row (step_now row) layout.eligible.items code (judged-so layout office are row initiator code Checkpoint its true refl)) use_it

  pub back : IsBack office after row
  back = by-run layout office are row initiator code Checkpoint its (λ leg owned running found same. by-effect (λ effect got. run-back leg owned running found same effect got))

  -- its data set keeps the entry
  pub entry-there : is_some (effect_entry office.tables row) ≡ true
  entry-there = ap is_some back.there

  -- ---- what the restart leaves

  module _ (entry : KeptEntry) (found : effect_entry office.tables row ≡ Some entry) where
    pub check-stands : (leg : Leg) → leg_of office row.number ≡ Some leg → StandsAt after row.number leg (Within its.on.number entry.point.writes) entry.point.count
    check-stands leg led =
        by-run layout office are row initiator code Checkpoint its
        (λ other owned running own same.
        by-effect (λ effect got.
        subst (λ step. StandsAt after row.number leg (Within step entry.point.writes) entry.point.count) (here layout office are row initiator code Checkpoint its)
        (entry-stands layout office row.number initiator code None row leg owned effect entry are.kept are.pointed can comes.may comes.carried
        (record { row_at = its.on.held.row_at; holds = its.on.held.holds; leg_at = led }) own got
        (sym (ap (λ (o : Option EffectPoint). option_map_or (λ (effect : EffectPoint). kept_at office.tables.sets effect.set effect.kept.id) o None) got) ∙ found))))

    -- its step goes on from the entry
    pub check-going : IsGoing after (at_entry row.number entry.point)
    check-going = subst (λ (e : KeptEntry). IsGoing after (at_entry row.number e.point)) (some-one back.entry entry (effect_entry office.tables row) back.there found) back.going
