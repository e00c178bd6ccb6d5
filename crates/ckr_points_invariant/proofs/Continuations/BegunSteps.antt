-- What runs keep of the steps that they began, where one is selected that continues another one: it has begun the step at which it continues,
-- as that one had, and the other runs keep theirs.
use Rattle.std.proofs.Common.{◌≡◌, ◌≢◌, ℕ, true, false, cond, List, map, take, drop, refl, ap, sym, ◌∙◌, subst, Option, Some, None, arith}
use Rattle.std.specs.Prelude.{◌==◌, nat_lt}
use Rattle.std.specs.List.{list_all}
use Rattle.std.specs.Option.{option_map_or}
use Rattle.std.proofs.lemmas.Bool.{and_from, false≢true}
use Rattle.std.proofs.lemmas.List.Folds.{list_all-append}
use Rattle.ckr_base.proofs.Bools.{bool-cases, or-not-first}
use Rattle.ckr_base.proofs.Numbers.{equal-true, number-cases}
use Rattle.ckr_base.proofs.Options.{some-not-none}
use Rattle.ckr_base.proofs.Sequences.{all-drop, all-take, filter-twice, find-passes}
use Rattle.ckr_jcl.specs.declared.deck.Step.{Step}
use Rattle.ckr_library.specs.NameMaps.{Name, Named}
use Rattle.ckr_meaning.specs.EffectiveJob.{OwnedStep, is_among, owned_by}
use Rattle.ckr_meaning.specs.JobRun.{is_bypassed}
use Rattle.ckr_meaning.specs.LibrarySet.{Library}
use Rattle.ckr_points.specs.Marks.{point_at}
use Rattle.ckr_points.specs.Office.{Leg, Office, continued_leg}
use Rattle.ckr_points.specs.Payload.{is_orderly_dd}
use Rattle.ckr_points.specs.Restart.{carried_point, rcs_before, step_in}
use Rattle.ckr_points.specs.RuleCases.{is_ended}
use Rattle.ckr_points.specs.Rows.{RunRow, StartPoint, TableSet, TablesModel, run_of}
use Rattle.ckr_points_invariant.specs.Invariant.{step_now}
use Rattle.ckr_points_invariant.specs.JobNames.{AreKin, IsKin}
use Rattle.ckr_points_invariant.specs.StartedSteps.{HasBegunSteps, IsBegunStep}
use Rattle.ckr_points_invariant.proofs.Decks.Names.{orderly-dds, owned-orderly}
use Rattle.ckr_points_invariant.proofs.Holders.Rows.{PointsStay, queued-is, run-same}
use Rattle.ckr_points_invariant.proofs.StartedSteps.Kin.{keeps-itself}
use Rattle.ckr_points_invariant.proofs.StartedSteps.Runs.{steps-stay}
use Rattle.ckr_points_invariant.proofs.Continuations.EarlierRun.{Coming, IsEarlier, leg_from, row_then, tables_then}
use Rattle.ckr_points_invariant.proofs.Continuations.ReachedNames.OwnSteps.{step-either}
use Rattle.ckr_points_invariant.proofs.Continuations.Steps as steps
use Rattle.ckr_points_invariant.proofs.Continuations.Walks as walks

module _ (now : Office) (row other : RunRow) (start : Library) (reach : List Name) (step : ℕ) (point : StartPoint) (earlier : IsEarlier now row other (leg_from other start reach) step point)
    (initiator : ℕ) (coming : Coming) (stands : step_in coming.place ≡ step) (sets : Named TableSet) where
  abbrev pub next : RunRow
  next = row_then now row other step point initiator coming

  abbrev pub leg : Leg
  leg = continued_leg now next (leg_from other start reach)

  abbrev pub tables : TablesModel
  tables = tables_then now next sets

  abbrev begins : OwnedStep
  begins = walks.owned now row other start reach step point earlier initiator coming

  -- ---- the run itself

  -- the codes that it took over are of the steps before this one
  codes : rcs_before step next.rcs ≡ next.rcs
  codes = filter-twice (λ (at : ℕ × ℕ). nat_lt at.0 step) other.rcs

  -- it has begun the step at which it continues
  pub step-begun : IsBegunStep tables next leg step
  step-begun =
      let here = walks.step-here now row other start reach step point earlier initiator coming in
      let rcs = walks.rcs now row other start reach step point earlier initiator coming in
      record {
        owned = begins;
        found = here;
        begun = earlier.begun.begun;
        goes_on = walks.goes_on now row other start reach step point earlier initiator coming;
        runs = ap (λ rcs. is_bypassed rcs begins) (sym rcs) ∙ walks.runs now row other start reach step point earlier initiator coming;
        flawless = walks.flawless now row other start reach step point earlier initiator coming;
        rcs = codes ∙ rcs;
        earlier = λ name.
            ap (λ names. is_among names name) (steps.earlier-stays now row other start reach step point earlier initiator coming stands sets)
            ∙ earlier.begun.earlier name
            ∙ ap (λ names. is_among names name) (sym (walks.earlier-names now row other start reach step point earlier initiator coming));
        made = λ name.
            ap (λ names. is_among names name) (steps.made-stays now row other start reach step point earlier initiator coming stands sets step begins (omega arith) here)
            ∙ earlier.begun.made name
            ∙ sym (walks.made-names now row other start reach step point earlier initiator coming name);
      }

  -- and has a point of no other one
  only-point : (number : ℕ) (its : StartPoint) → point_at next.points number ≡ Some its → step ≡ number
  only-point number its got =
      bool-cases (point.step == number)
      (λ here. sym (equal-true point.step step (find-passes (λ (one : StartPoint). one.step == step) other.points point earlier.has)) ∙ equal-true point.step number here)
      (λ apart. absurd (some-not-none its (sym got ∙ ap (λ b. cond b (Some (carried_point leg.job now.tables.sets point)) None) apart)))

  -- its steps are those of orderly decks
  orderly : list_all (λ owned. list_all is_orderly_dd owned.step.dds) leg.job.steps ≡ true
  orderly =
      list_all-append (λ (owned : OwnedStep). list_all is_orderly_dd owned.step.dds) (take step other.job.steps) (map (owned_by row.number row.deck) (drop step row.deck.steps))
      ∙ and_from (list_all (λ (owned : OwnedStep). list_all is_orderly_dd owned.step.dds) (take step other.job.steps)) _
      (all-take (λ (owned : OwnedStep). list_all is_orderly_dd owned.step.dds) step other.job.steps earlier.steps.orderly)
      (owned-orderly row.number row.deck (drop step row.deck.steps)
      (all-drop (λ (step : Step). list_all is_orderly_dd step.dds) step row.deck.steps (orderly-dds row.number row.deck earlier.orderly)))

  -- kin of the earlier run are its own
  kin-of : (number : ℕ) → IsKin now.tables other number → IsKin tables next number
  kin-of number theirs = (
    (theirs.0.0, steps.rows-stay now row other start reach step point earlier initiator coming stands sets number (steps.owner-apart now row other start reach step point earlier initiator coming stands sets number theirs.1) ∙ theirs.0.1, theirs.0.2 ∙ earlier.named),
    steps.owner-keeps now row other start reach step point earlier initiator coming stands sets number theirs.1,
  )

  -- and so is it itself
  kin-itself : IsKin tables next row.number
  kin-itself = ((next, run-same (record now.tables { sets = sets }) next row row.number earlier.row_at refl, refl), keeps-itself tables row.number)

  kin : AreKin tables next
  kin = record {
    root = kin-of other.job.root earlier.steps.kin.root;
    owners = λ number owned found.
        step-either other.job step row.number row.deck number owned found
        (λ theirs. kin-of owned.owner (earlier.steps.kin.owners number owned theirs))
        (λ mine. subst (IsKin tables next) (sym mine) kin-itself);
  }

  -- so it has its steps
  pub begun-steps : HasBegunSteps tables next leg
  begun-steps = record {
    job = refl;
    formed = steps.formed now row other start reach step point earlier initiator coming stands sets;
    orderly = orderly;
    kin = kin;
    owners = steps.owners now row other start reach step point earlier initiator coming stands sets;
    steps = λ number its got. subst (IsBegunStep tables next leg) (only-point number its got) step-begun;
    so_far = λ number its got.
        let same : step ≡ number = only-point number its got in
        let there : step_now next ≡ step = stands in
        omega (arith, same, there);
  }

  -- ---- the other runs

  -- the run waited, so the points of the owners of another run's steps stay
  points-stay : (number : ℕ) → number ≢ row.number → PointsStay now.tables tables number
  points-stay number apart owner keeps =
      number-cases owner row.number
      (λ here.
      absurd (false≢true (
      sym (ap (λ n. option_map_or (λ row. is_ended row.state) (run_of now.tables n) false) here ∙ ap (λ (o : Option RunRow). option_map_or (λ row. is_ended row.state) o false) earlier.row_at ∙ ap is_ended (queued-is row.state earlier.queued))
      ∙ or-not-first (owner == number) _ keeps (λ e. apart (sym (equal-true owner number e) ∙ here)))))
      (λ there. steps.rows-stay now row other start reach step point earlier initiator coming stands sets owner there)

  -- another row keeps what it has of its steps
  pub row-begun : (its : RunRow) (its_leg : Leg) → its.number ≢ row.number → HasBegunSteps now.tables its its_leg → HasBegunSteps tables its its_leg
  row-begun its its_leg apart begun = steps-stay now.tables tables its (points-stay its.number apart) its_leg begun

  -- and so does each other run, where rows have their numbers
  pub others-begun : ((number : ℕ) (its : RunRow) → run_of now.tables number ≡ Some its → its.number ≡ number)
      → (number : ℕ) (its : RunRow) (its_leg : Leg) → number ≢ row.number → run_of now.tables number ≡ Some its → HasBegunSteps now.tables its its_leg → HasBegunSteps tables its its_leg
  others-begun numbered number its its_leg apart found = row-begun its its_leg (λ same. apart (sym (numbered number its found) ∙ same))
