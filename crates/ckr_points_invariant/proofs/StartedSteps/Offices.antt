-- Runs keep what they began where an event changes the row of one run that isn't ended.
use Rattle.std.proofs.Common.{◌≡◌, ◌≢◌, ℕ, true, false, [], ap, sym, ◌∙◌, subst, Some, None}
use Rattle.std.specs.Prelude.{◌==◌}
use Rattle.std.specs.Option.{is_some, option_map_or}
use Rattle.std.proofs.lemmas.Bool.{false≢true}
use Rattle.ckr_base.proofs.Bools.{or-not-first}
use Rattle.ckr_base.proofs.Numbers.{equal-true, number-cases}
use Rattle.ckr_volumes.specs.declared.layout.Layout.{Layout}
use Rattle.ckr_points.specs.Office.{Leg, Office, leg_of}
use Rattle.ckr_points.specs.RuleCases.{is_ended, was_selected}
use Rattle.ckr_points.specs.Rows.{RunRow, run_of}
use Rattle.ckr_points_invariant.specs.Invariant.{IsAgreed}
use Rattle.ckr_points_invariant.specs.StartedSteps.{AreBegunSteps, HasBegunSteps}
use Rattle.ckr_points_invariant.proofs.Holders.Rows.{PointsStay}
use Rattle.ckr_points_invariant.proofs.StartedSteps.Runs.{steps-stay}

-- only the row of this run changed, and its leg; it wasn't ended
pub record IsOnlyRow (now later : Office) (job : ℕ) : Type 0 where
  pub legs : (number : ℕ) → number ≢ job → leg_of later number ≡ leg_of now number
  pub others : (number : ℕ) → number ≢ job → run_of later.tables number ≡ run_of now.tables number
  pub unended : option_map_or (λ row. is_ended row.state) (run_of now.tables job) false ≡ false

-- what that run has of its steps
pub record HasItsSteps (later : Office) (job : ℕ) : Type 0 where
  pub led : (row : RunRow) → run_of later.tables job ≡ Some row → was_selected row ≡ true → is_some (leg_of later job) ≡ true
  pub unled : (row : RunRow) → run_of later.tables job ≡ Some row → leg_of later job ≡ None → row.points ≡ []
  pub steps : (row : RunRow) (leg : Leg) → run_of later.tables job ≡ Some row → leg_of later job ≡ Some leg → HasBegunSteps later.tables row leg

module _ (layout : Layout) (now later : Office) (job : ℕ) (kept : IsAgreed layout now) (only : IsOnlyRow now later job) where
  -- the owners of another run's steps have the points that they had
  pub owners-stay : (other : ℕ) → other ≢ job → PointsStay now.tables later.tables other
  owners-stay other apart owner keeps =
      number-cases owner job
      (λ here.
      absurd (false≢true (
      sym (ap (λ n. option_map_or (λ row. is_ended row.state) (run_of now.tables n) false) here ∙ only.unended)
      ∙ or-not-first (owner == other) _ keeps (λ e. apart (sym (equal-true owner other e) ∙ here)))))
      (λ there. only.others owner there)

  pub begun-only : AreBegunSteps now → HasItsSteps later job → AreBegunSteps later
  begun-only begun own = record {
    led = λ number row e selected.
        number-cases number job
        (λ here. ap (λ n. is_some (leg_of later n)) here ∙ own.led row (ap (run_of later.tables) (sym here) ∙ e) selected)
        (λ apart. ap is_some (only.legs number apart) ∙ begun.led number row (sym (only.others number apart) ∙ e) selected);
    unled = λ number row e none.
        number-cases number job
        (λ here. own.unled row (ap (run_of later.tables) (sym here) ∙ e) (ap (leg_of later) (sym here) ∙ none))
        (λ apart. begun.unled number row (sym (only.others number apart) ∙ e) (sym (only.legs number apart) ∙ none));
    runs = λ number row leg e led.
        number-cases number job
        (λ here. own.steps row leg (ap (run_of later.tables) (sym here) ∙ e) (ap (leg_of later) (sym here) ∙ led))
        (λ apart.
        let was : run_of now.tables number ≡ Some row = sym (only.others number apart) ∙ e in
        steps-stay now.tables later.tables row
        (subst (PointsStay now.tables later.tables) (sym (kept.numbered number row was)) (owners-stay number apart)) leg
        (begun.runs number row leg was (sym (only.legs number apart) ∙ led)));
  }
