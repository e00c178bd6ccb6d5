-- A run that continues another one stands at its place: its row is what its job is behind the steps before it.
use Rattle.std.proofs.Common.{◌≡◌, ◌≤◌, ℕ, pred, true, false, List, ◌++◌, take, length, refl, ap, sym, ◌∙◌, subst, Some, arith}
use Rattle.std.proofs.lemmas.Bool.{false≢true}
use Rattle.ckr_base.proofs.Options.{some-not-none}
use Rattle.ckr_entry.specs.declared.point.Mark.{Mark}
use Rattle.ckr_jcl.specs.declared.deck.Restart.{Restart}
use Rattle.ckr_library.specs.NameMaps.{Name, Named}
use Rattle.ckr_meaning.specs.EffectiveJob.{OwnedStep, is_among, names_made, names_of_job, step_at}
use Rattle.ckr_meaning.specs.JobRun.{all_go_on, at, start_in, walk_before, walk_from}
use Rattle.ckr_meaning.specs.LibrarySet.{Library}
use Rattle.ckr_meaning.specs.StepRun.{placed_at, work_at}
use Rattle.ckr_meaning.specs.declared.place.Place.{Place}
use Rattle.ckr_meaning.specs.declared.place.Place.TheVariants.{Before, Opened, Within}
use Rattle.ckr_points.specs.Marks.{own_names, without_passed}
use Rattle.ckr_points.specs.Office.{Leg, Office, passed_made, continued_leg}
use Rattle.ckr_points.specs.Restart.{step_in}
use Rattle.ckr_points.specs.Rows.{RunRow, StartPoint, TableSet, TablesModel}
use Rattle.ckr_points.specs.Tables.{earlier_made, step_made}
use Rattle.ckr_points_invariant.specs.Invariant.{AreAlike, IsAtPlace, IsWithinStep, step_now}
use Rattle.ckr_points_invariant.proofs.Continuations.EarlierRun.{ComesTo, Coming, IsEarlier, IsPutBack, leg_from, row_then, tables_then}
use Rattle.ckr_points_invariant.proofs.Continuations.Beginnings.{within-opened, within-writes}
use Rattle.ckr_points_invariant.proofs.Continuations.LostNames as losses
use Rattle.ckr_points_invariant.proofs.Continuations.Marks.{carried-has}
use Rattle.ckr_points_invariant.proofs.Continuations.Steps as steps
use Rattle.ckr_points_invariant.proofs.Continuations.Walks as walks

pub comes-stands : (step most : ℕ) (place : Place) → ComesTo step most place → step_in place ≡ step
comes-stands step most (Before number) comes = absurd comes
comes-stands step most (Opened number) comes = comes
comes-stands step most (Within number writes) comes = comes.0

module _ (now : Office) (row other : RunRow) (start : Library) (reach : List Name) (step : ℕ) (point : StartPoint) (earlier : IsEarlier now row other (leg_from other start reach) step point)
    (initiator : ℕ) (coming : Coming) (sets : Named TableSet) where
  abbrev pub next : RunRow
  next = row_then now row other step point initiator coming

  abbrev pub leg : Leg
  leg = continued_leg now next (leg_from other start reach)

  abbrev pub tables : TablesModel
  tables = tables_then now next sets

  abbrev pub begins : OwnedStep
  begins = walks.owned now row other start reach step point earlier initiator coming

  -- how many writes the step makes
  abbrev pub most : ℕ
  most = length (work_at (walks.started now row other start reach step point earlier initiator coming)).writes

  module _ (comes : ComesTo step most coming.place) (passed : coming.passed ≡ (at other.job start coming.place).passed) (marks : List Mark) (needed removed others : List Name)
      (isback : IsPutBack now next other begins start coming marks needed removed (own_names next ++ others)) (restart : Restart) (has : row.deck.restart ≡ Some restart)
      (left : (name : Name) → is_among leg.reach name ≡ true → AreAlike now.tables.sets now.library name) where
    stands : step_in coming.place ≡ step
    stands = comes-stands step most coming.place comes

    -- what holds at the step holds at the step that the run is in
    here : (P : ℕ → Type 0) → P step → P (step_now next)
    here P its = subst P (sym stands) its

    new : (name : Name) → is_among (own_names next) name ≡ true → is_among (names_of_job other.job) name ≡ false → AreAlike now.tables.sets now.library name
    new name mine out = left name (steps.own now row other start reach step point earlier initiator coming stands sets name mine)

    within : (place : Place) → ComesTo step most place → IsWithinStep next leg place
    within (Before number) to = absurd to
    within (Opened number) to = subst (λ n. IsWithinStep next leg (Opened n)) (sym to) (within-opened now row other start reach step point earlier initiator coming)
    within (Within number writes) to = subst (λ n. IsWithinStep next leg (Within n writes)) (sym to.0) (within-writes now row other start reach step point earlier initiator coming new writes to.1)

    goes_there : all_go_on other.job.root 1 (take (pred (step_in coming.place)) other.job.steps) (walk_from start) ≡ true
    goes_there = ap (λ n. all_go_on other.job.root 1 (take (pred n) other.job.steps) (walk_from start)) stands ∙ earlier.begun.goes_on

    unreached : (name : Name) → is_among next.lost name ≡ true → is_among leg.reach name ≡ false
    unreached name =
        subst (λ lost. is_among lost name ≡ true → is_among (own_names next ++ passed_made (without_passed lost coming.passed)) name ≡ false) (sym isback.lost)
        (losses.unreached other.job start now.library step row.number row.deck begins earlier.begun.found coming.place (subst (λ n. n ≤ step) (sym stands) (omega arith)) marks isback.all (own_names next) needed removed isback.are
        now.tables.sets isback.judged earlier.steps.formed goes_there coming.passed passed others name)

    lent : (owned : OwnedStep) (name : Name) → step_at leg.job step ≡ Some owned → is_among (step_made tables next owned step) name ≡ is_among (names_made (placed_at (start_in leg.job.root step owned (walk_before leg.job leg.start step)))) name
    lent owned name found =
        subst (λ (its : OwnedStep). is_among (step_made tables next its step) name ≡ is_among (names_made (placed_at (start_in leg.job.root step its (walk_before leg.job leg.start step)))) name)
        (walks.step-same now row other start reach step point earlier initiator coming owned found)
        (ap (λ names. is_among names name) (steps.made-stays now row other start reach step point earlier initiator coming stands sets step begins (omega arith) (walks.step-here now row other start reach step point earlier initiator coming))
        ∙ earlier.begun.made name
        ∙ sym (walks.made-names now row other start reach step point earlier initiator coming name))

    -- It stands so.
    pub place-then : IsAtPlace tables next leg
    place-then = record {
      job = refl;
      begun = here (λ n. 1 ≤ n) earlier.begun.begun;
      past = here (λ n. step ≤ n) (omega arith);
      formed = steps.formed now row other start reach step point earlier initiator coming stands sets;
      goes_on = here (λ n. all_go_on leg.job.root 1 (take (pred n) leg.job.steps) (walk_from leg.start) ≡ true) (walks.goes_on now row other start reach step point earlier initiator coming);
      rcs = here (λ n. next.rcs ≡ (walk_before leg.job leg.start n).rcs) (walks.rcs now row other start reach step point earlier initiator coming);
      passed = here (λ n. next.passed ≡ (walk_before leg.job leg.start n).standing.passed) (walks.passed now row other start reach step point earlier initiator coming stands passed);
      earlier = λ name.
          here (λ n. is_among (earlier_made tables next n) name ≡ is_among (walk_before leg.job leg.start n).earlier name)
          (ap (λ names. is_among names name) (steps.earlier-stays now row other start reach step point earlier initiator coming stands sets)
          ∙ earlier.begun.earlier name
          ∙ ap (λ names. is_among names name) (sym (walks.earlier-names now row other start reach step point earlier initiator coming)));
      owners = steps.owners now row other start reach step point earlier initiator coming stands sets;
      ahead = steps.ahead now row other start reach step point earlier initiator coming stands sets;
      own = steps.own now row other start reach step point earlier initiator coming stands sets;
      carried = carried-has now row other start reach step point earlier initiator coming new stands;
      later = steps.later now row other start reach step point earlier initiator coming stands sets;
      lent = λ owned name found apart.
          here (λ n. step_at leg.job n ≡ Some owned → is_among (step_made tables next owned n) name ≡ is_among (names_made (placed_at (start_in leg.job.root n owned (walk_before leg.job leg.start n)))) name) (lent owned name) found;
      unreached = unreached;
      none_lost = λ none. absurd (some-not-none restart (sym has ∙ none));
      entered = losses.entered (own_names next) next.lost next.passed;
      waits = λ off. absurd (false≢true (sym off));
      within = within coming.place comes;
    }
