-- The event of an automatic restart may come where the rules restart a run, and carries what its job gives.
use Rattle.std.proofs.Common.{◌≡◌, ℕ, Bool, true, false, ◌&&◌, ◌||◌, refl, ap, ◌∙◌, Some, None, arith}
use Rattle.std.specs.Prelude.{◌==◌, nat_eq}
use Rattle.std.specs.Option.{is_some, option_eq}
use Rattle.std.proofs.lemmas.Bool.{and_from, or_left, or_right}
use Rattle.std.proofs.lemmas.Bool.Decides.{nat_tests}
use Rattle.ckr_base.specs.declared.code.Code.{Code}
use Rattle.ckr_base.proofs.Bools.{and-first}
use Rattle.ckr_meaning.specs.EffectiveJob.{OwnedStep}
use Rattle.ckr_meaning.specs.StepRun.{StepStart}
use Rattle.ckr_meaning.specs.declared.place.Place.TheVariants.{Within}
use Rattle.ckr_points.specs.declared.run.RunState.{RunState}
use Rattle.ckr_points.specs.declared.run.RunState.TheVariants.{Released}
use Rattle.ckr_points.specs.Events.{IsNext}
use Rattle.ckr_points.specs.Follows.{is_free, is_in_state, is_running, is_within, may_restart_again, own_step, state_number}
use Rattle.ckr_points.specs.Marks.{point_at}
use Rattle.ckr_points.specs.Office.{Leg, Office, is_holder, office_after}
use Rattle.ckr_points.specs.Payload.{is_verdict, start_in_office}
use Rattle.ckr_points.specs.Restart.{place_of, step_in}
use Rattle.ckr_points.specs.Rows.{RunRow, TablesModel, run_of, step_of_run}
use Rattle.ckr_points_invariant.specs.Invariant.{step_now}
use Rattle.ckr_points_invariant.proofs.KeptEvents.{next-kept}
use Rattle.ckr_points_invariant.proofs.Restart.Verdicts.{restarts-again}
use Rattle.ckr_rules.specs.declared.cases.Verdict.{Verdict}
use Rattle.ckr_volumes.specs.declared.layout.Layout.{Layout}
use Rattle.ckr_desk_turn.specs.Codes.{verdict_for}
use Rattle.ckr_desk_turn.specs.NextEvents.{IsWithinStep}
use Rattle.ckr_desk_turn.specs.Restarts.{IsJudged, IsJudgedOff, restart_of}
use Rattle.ckr_desk_turn.proofs.Checkpoints.Events.{runs}
use Rattle.ckr_desk_turn.proofs.NextEvents.Holders.{HoldsStep, by-holder, may_go, of-run, on-holder}
use Rattle.ckr_points_invariant.specs.KeptEvents.{AreKept}
use Rattle.ckr_points_invariant.specs.RunningSteps.{IsRunning, its_start}

pub same-number : (n : ℕ) → nat_eq n n ≡ true
same-number n = grind (arith, nat_tests)

-- what follows where a run is restarted on an initiator: it is there, or was released and comes to it
abbrev pub may_go_on : Layout → TablesModel → ℕ → RunRow → Bool
may_go_on layout tables initiator row = is_running row && option_eq nat_eq row.initiator (Some initiator) || is_in_state Released row && is_free layout tables initiator

-- a run within its step, which may be restarted on an initiator
pub record MayGoOn (layout : Layout) (office : Office) (row : RunRow) (initiator : ℕ) : Type 0 where
  pub number : ℕ
  pub committed : ℕ
  pub start : StepStart
  pub held : HoldsStep office row.number row number committed start
  pub goes : may_go_on layout office.tables initiator row ≡ true

-- so it may end, or be held
pub goes-then : (layout : Layout) (office : Office) (row : RunRow) (initiator : ℕ) → MayGoOn layout office row initiator → may_go row ≡ true
goes-then layout office row initiator its =
    by (is_running row) (option_eq nat_eq row.initiator (Some initiator)) (is_in_state Released row) (is_free layout office.tables initiator) its.goes
  where
    by : (on here off free : Bool) → (on && here || off && free) ≡ true → (on || off) ≡ true
    by true here off free goes = refl
    by false true off free goes = and-first off free goes
    by false false off free goes = and-first off free goes

-- and what the rules say of it after a code
pub record MayRestart (layout : Layout) (office : Office) (row : RunRow) (initiator : ℕ) (code : Code) (verdict : Verdict) : Type 0 where
  pub on : MayGoOn layout office row initiator
  pub judged : verdict_for layout row code ≡ verdict

abbrev pub on-goes : (layout : Layout) (office : Office) (row : RunRow) (initiator number committed : ℕ) (start : StepStart) → IsWithinStep office row.number row number committed start → row.initiator ≡ Some initiator → MayGoOn layout office row initiator
on-goes layout office row initiator number committed start within lodged = record {
  number = number;
  committed = committed;
  start = start;
  held = on-holder office row.number row number committed start within;
  goes =
      or_left (is_running row && option_eq nat_eq row.initiator (Some initiator)) _
      (and_from (is_running row) (option_eq nat_eq row.initiator (Some initiator)) (runs layout office row.number row number committed start within)
      (ap (λ o. option_eq nat_eq o (Some initiator)) lodged ∙ same-number initiator));
}

abbrev pub off-goes : (layout : Layout) (office : Office) (row : RunRow) (initiator number committed : ℕ) (start : StepStart) → run_of office.tables row.number ≡ Some row → row.state ≡ Released → place_of row ≡ Within number committed → start_in_office office row ≡ Some start → is_free layout office.tables initiator ≡ true → MayGoOn layout office row initiator
off-goes layout office row initiator number committed start row_at off place start_at free = record {
  number = number;
  committed = committed;
  start = start;
  held = record { row_at = row_at; holds = ap is_holder off; place = place; start_at = start_at };
  goes =
      or_right (is_running row && option_eq nat_eq row.initiator (Some initiator)) _
      (and_from (is_in_state Released row) (is_free layout office.tables initiator) (ap (λ (state : RunState). state_number state == 4) off) free);
}

-- a run on its initiator
abbrev pub on-judged : (layout : Layout) (office : Office) (row : RunRow) (initiator : ℕ) (code : Code) (verdict : Verdict) → IsJudged layout office row initiator code verdict → MayRestart layout office row initiator code verdict
on-judged layout office row initiator code verdict its = record {
  on = on-goes layout office row initiator its.number its.committed its.start its.within its.lodged;
  judged = its.judged;
}

-- one that was released, on an initiator that has no run
abbrev pub off-judged : (layout : Layout) (office : Office) (row : RunRow) (initiator : ℕ) (code : Code) (verdict : Verdict) → IsJudgedOff layout office row code verdict → is_free layout office.tables initiator ≡ true → MayRestart layout office row initiator code verdict
off-judged layout office row initiator code verdict its free = record {
  on = off-goes layout office row initiator its.number its.committed its.start its.row_at its.off its.place its.start_at free;
  judged = its.judged;
}

module _ (layout : Layout) (office : Office) (are : AreKept layout office) (row : RunRow) (initiator : ℕ) (code : Code) (verdict : Verdict) (its : MayRestart layout office row initiator code verdict) where
  pub here : step_now row ≡ its.on.number
  here = ap step_in its.on.held.place

  -- its leg, and its step
  pub by-run : {A : Type 0} → ((leg : Leg) (owned : OwnedStep) → IsRunning office row.number row leg owned its.on.number its.on.committed → own_step row ≡ Some owned → its.on.start ≡ its_start leg owned its.on.number → A) → A
  by-run use_it =
      by-holder layout office row.number row its.on.number its.on.committed its.on.start its.on.held are.kept
      (λ leg owned running same. use_it leg owned running (ap (λ place. step_of_run row (step_in place)) its.on.held.place ∙ running.found) same)

  -- its step has a point
  pub begun : is_some (point_at row.points (step_now row)) ≡ true
  begun = by-run (λ leg owned running found same. (are.ready.runs row.number row leg running.holder).begun (ap is_within its.on.held.place))

  module _ (checkpoint : Bool) (so : is_verdict checkpoint verdict ≡ true) where
    pub judged-so : is_verdict checkpoint (verdict_for layout row code) ≡ true
    judged-so = ap (is_verdict checkpoint) its.judged ∙ so

    abbrev restarts : RunRow → Bool
    restarts row = may_go_on layout office.tables initiator row && may_restart_again checkpoint row

    pub restart-comes : IsNext layout office (restart_of row initiator code checkpoint, None)
    restart-comes = record {
      may =
          and_from _ true
          (of-run layout office row.number row its.on.number its.on.committed its.on.start its.on.held restarts
          (and_from (may_go_on layout office.tables initiator row) (may_restart_again checkpoint row) its.on.goes
          (restarts-again row layout.eligible.items code checkpoint begun judged-so))) refl;
      carried = of-run layout office row.number row its.on.number its.on.committed its.on.start its.on.held (λ row. is_verdict checkpoint (verdict_for layout row code)) judged-so;
    }

    -- what is kept behind it
    pub restart-keeps : AreKept layout (office_after (restart_of row initiator code checkpoint, None) office)
    restart-keeps = next-kept layout office are (restart_of row initiator code checkpoint) None restart-comes
