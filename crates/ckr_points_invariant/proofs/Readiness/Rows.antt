-- One more event by which one run's row changes leaves all runs ready to restart.
use Rattle.std.proofs.Common.{◌≡◌, ◌≢◌, ℕ, true, refl, sym, ◌∙◌, subst, Option, Some, None}
use Rattle.std.specs.Option.{option_map_or}
use Rattle.ckr_base.specs.declared.code.Code.{Code}
use Rattle.ckr_base.proofs.Options.{some-not-none, some-one}
use Rattle.ckr_library.specs.NameMaps.{Named}
use Rattle.ckr_meaning.specs.EffectiveJob.{OwnedStep}
use Rattle.ckr_meaning.specs.LibrarySet.{Library}
use Rattle.ckr_volumes.specs.declared.layout.Layout.{Layout}
use Rattle.ckr_points.specs.declared.run.RunState.{RunState}
use Rattle.ckr_points.specs.declared.run.RunState.TheVariants.{Queued}
use Rattle.ckr_points.specs.Follows.{is_in_state}
use Rattle.ckr_points.specs.Office.{Leg, Office, is_holder}
use Rattle.ckr_points.specs.Restart.{by_step}
use Rattle.ckr_points.specs.Rows.{RunRow, TableSet, TablesModel, run_of, step_of_run, with_run}
use Rattle.ckr_points_invariant.specs.Invariant.{IsAgreed, IsHolder, step_now}
use Rattle.ckr_points_invariant.specs.Points.{ArePointed}
use Rattle.ckr_points_invariant.proofs.Holders.Rows.{run-other, run-same}
use Rattle.ckr_points_invariant.specs.Readiness.{AreReady, IsCheck, IsReady}
use Rattle.ckr_points_invariant.specs.Restorability.{IsRestorable}
use Rattle.ckr_points_invariant.proofs.OtherRuns.Sets.{LeavesApart}
use Rattle.ckr_points_invariant.proofs.Readiness.Office.{ready-only}

-- ---- a row in another state

restorable-state : (row : RunRow) (leg : Leg) (state : RunState) (initiator : Option ℕ) (code : Option Code) (from : ℕ) → IsRestorable row leg from → IsRestorable (record row { state = state; initiator = initiator; code = code }) leg from
restorable-state row leg state initiator code from can = record { behind = can.behind; unwritten = can.unwritten }

pub ready-state : (sets : Named TableSet) (row : RunRow) (leg : Leg) (state : RunState) (initiator : Option ℕ) (code : Option Code) → IsReady sets row leg → IsReady sets (record row { state = state; initiator = initiator; code = code }) leg
ready-state sets row leg state initiator code ready = record {
  begun = ready.begun;
  steps = λ point within got unwritten. restorable-state row leg state initiator code 0 (ready.steps point within got unwritten);
  check = λ effect within got.
      let its : IsCheck sets row leg effect = ready.check effect within got in
      record {
        owned = its.owned;
        found_step = its.found_step;
        among = its.among;
        entry = its.entry;
        keeps = its.keeps;
        back = its.back;
        point = its.point;
        taken = its.taken;
        since = λ unwritten. restorable-state row leg state initiator code its.entry.point.writes (its.since unwritten);
      };
  none = ready.none;
}

-- with no checkpoint in effect
pub ready-cancelled : (sets : Named TableSet) (row : RunRow) (leg : Leg) → IsReady sets row leg → IsReady sets (record row { in_effect = None }) leg
ready-cancelled sets row leg ready = record {
  begun = ready.begun;
  steps = λ point within got unwritten.
      let can = ready.steps point within got unwritten in record { behind = can.behind; unwritten = can.unwritten };
  check = λ effect within got. absurd (some-not-none effect (sym got));
  none = λ out. refl;
}

-- ---- the tables

-- the tables changed by what a run's step does
pub changed-to : (Q : Office → Type 0) (now : Office) (job : ℕ) (row : RunRow) (owned : OwnedStep) (change : RunRow → OwnedStep → ℕ → TablesModel) → run_of now.tables job ≡ Some row → step_of_run row (step_now row) ≡ Some owned → Q (record now { tables = change row owned (step_now row) }) → Q (record now { tables = option_map_or (λ row. by_step (λ owned step. change row owned step) row now.tables) (run_of now.tables job) now.tables })
changed-to Q now job row owned change e found it =
    subst (λ (o : Option RunRow). Q (record now { tables = option_map_or (λ row. by_step (λ owned step. change row owned step) row now.tables) o now.tables })) (sym e)
    (subst (λ (o : Option OwnedStep). Q (record now { tables = option_map_or (λ owned. change row owned (step_now row)) o now.tables })) (sym found) it)

module _ (layout : Layout) (now : Office) (kept : IsAgreed layout now) (pointed : ArePointed now) (ready : AreReady now) where
  -- all runs stay ready where one run's row comes in the tables, with data sets that differ in those that the run reaches
  pub ready-with : (job : ℕ) (mid next : RunRow) (base : TablesModel) (sets : Named TableSet) (library : Library) → run_of base job ≡ Some mid → next.number ≡ job → ((number : ℕ) → number ≢ job → run_of base number ≡ run_of now.tables number) → LeavesApart now job sets
      → ((leg : Leg) → IsHolder (record now { tables = with_run next (record base { sets = sets }); library = library }) job next leg → IsReady sets next leg)
      → (is_in_state Queued next ≡ true → next.in_effect ≡ None) → AreReady (record now { tables = with_run next (record base { sets = sets }); library = library })
  ready-with job mid next base sets library was same others apart own waits =
      ready-only layout now kept pointed ready job later
      (record {
        legs = λ number differs. refl;
        others = λ number differs. run-other (record base { sets = sets }) next number (λ e. differs (e ∙ same)) ∙ others number differs;
        sets = apart;
        own = λ row leg there.
            let is : next ≡ row = some-one next row (run_of later.tables job) here there.row_at in
            subst (λ (its : RunRow). IsReady sets its leg) is
            (own leg (record { row_at = here; holds = subst (λ (its : RunRow). is_holder its.state ≡ true) (sym is) there.holds; leg_at = there.leg_at }));
        waits = λ row e queued.
            let is : next ≡ row = some-one next row (run_of later.tables job) here e in
            subst (λ (its : RunRow). its.in_effect ≡ None) is (waits (subst (λ (its : RunRow). is_in_state Queued its ≡ true) (sym is) queued));
      })
    where
      later : Office
      later = record now { tables = with_run next (record base { sets = sets }); library = library }

      here : run_of later.tables job ≡ Some next
      here = run-same (record base { sets = sets }) next mid job was same

  -- a row of the tables as they are
  pub ready-moved : (job : ℕ) (row next : RunRow) (sets : Named TableSet) (library : Library) → run_of now.tables job ≡ Some row → next.number ≡ row.number → LeavesApart now job sets
      → ((leg : Leg) → IsHolder (record now { tables = with_run next (record now.tables { sets = sets }); library = library }) job next leg → IsReady sets next leg)
      → (is_in_state Queued next ≡ true → next.in_effect ≡ None) → AreReady (record now { tables = with_run next (record now.tables { sets = sets }); library = library })
  ready-moved job row next sets library e same apart own waits =
      ready-with job row next now.tables sets library e (same ∙ kept.numbered job row e) (λ number differs. refl) apart own waits
