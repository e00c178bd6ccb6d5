-- The office behind the selection of a run that continues another one: it has one leg more and another row of that run, and each run has begun its
-- steps there.
use Rattle.std.proofs.Common.{◌≡◌, ◌≢◌, ℕ, suc, false, List, ap, sym, ◌∙◌, subst, Option, Some, None}
use Rattle.std.specs.Option.{is_some, option_map_or}
use Rattle.ckr_base.proofs.Options.{is_some-from, some-not-none, some-one}
use Rattle.ckr_base.proofs.Numbers.{equal-apart}
use Rattle.ckr_library.specs.NameMaps.{Name, Named}
use Rattle.ckr_meaning.specs.EffectiveJob.{is_among, names_of_job}
use Rattle.ckr_meaning.specs.LibrarySet.{Library}
use Rattle.ckr_volumes.specs.declared.layout.Layout.{Layout}
use Rattle.ckr_points.specs.Marks.{mark_at}
use Rattle.ckr_points.specs.Office.{Leg, Office, continued_leg, leg_by, leg_of, office_selected, plain_leg, with_leg}
use Rattle.ckr_points.specs.Restart.{step_in}
use Rattle.ckr_points.specs.RuleCases.{is_ended}
use Rattle.ckr_points.specs.Rows.{RunRow, TableSet, TablesModel, run_of}
use Rattle.ckr_points_invariant.specs.Invariant.{IsKept}
use Rattle.ckr_points_invariant.specs.Points.{ArePointed}
use Rattle.ckr_points_invariant.specs.StartedSteps.{AreBegunSteps, HasBegunSteps}
use Rattle.ckr_points_invariant.specs.EarlierRuns.{MayContinue}
use Rattle.ckr_points_invariant.proofs.Holders.Rows.{queued-is, run-other, run-same}
use Rattle.ckr_points_invariant.proofs.Select.Holders.{leg_here, leg_there}
use Rattle.ckr_points_invariant.proofs.StartedSteps.Offices.{HasItsSteps, IsOnlyRow, begun-only}
use Rattle.ckr_points_invariant.proofs.Continuations.EarlierRun.{Coming, leg_from, row_then, tables_then}
use Rattle.ckr_points_invariant.proofs.Continuations.BegunSteps.{begun-steps}
use Rattle.ckr_points_invariant.proofs.Continuations.Selections.Earlier.{earlier-start}

module _ (layout : Layout) (now : Office) (job initiator before step : ℕ) (id : Option Name) (its : MayContinue layout now.tables job initiator (suc before) step id) (start : Library) (reach : List Name)
    (kept : IsKept layout now) (begun : AreBegunSteps now) (pointed : ArePointed now) (led : leg_of now (suc before) ≡ Some (leg_from its.other start reach))
    (covers : (name : Name) → is_some (mark_at its.point.marks name) ≡ is_among (names_of_job its.other.job) name) (coming : Coming) (sets : Named TableSet) where
  abbrev pub next : RunRow
  next = row_then now its.row its.other step its.point initiator coming

  abbrev pub leg : Leg
  leg = continued_leg now next (leg_from its.other start reach)

  abbrev pub tables : TablesModel
  tables = tables_then now next sets

  -- the office behind it
  abbrev pub behind : Office
  behind = office_selected now job tables

  -- ---- rows

  row_is : its.row.number ≡ job
  row_is = kept.events.numbered job its.row its.row_at

  pub row-behind : run_of behind.tables job ≡ Some next
  row-behind = run-same (record now.tables { sets = sets }) next its.row job its.row_at row_is

  pub rows-behind : (number : ℕ) → number ≢ job → run_of behind.tables number ≡ run_of now.tables number
  rows-behind number apart = run-other (record now.tables { sets = sets }) next number (λ same. apart (same ∙ row_is))

  -- ---- legs

  -- it waited, so it had no leg
  pub alone : leg_of now its.row.number ≡ None
  alone = (kept.events.waiting job its.row its.row_at its.queued).alone

  -- it continues the earlier run's leg
  continues : leg_by now next next.earlier ≡ leg
  continues =
      ap (leg_by now next) (kept.events.numbered (suc before) its.other its.other_at)
      ∙ ap (λ (o : Option Leg). option_map_or (continued_leg now next) o (plain_leg now next)) led

  pub all-legs : behind.legs ≡ with_leg leg now.legs
  all-legs =
      ap (λ (o : Option RunRow). option_map_or (λ (row : RunRow). with_leg (leg_by now row row.earlier) now.legs) o now.legs) row-behind
      ∙ ap (λ (leg : Leg). with_leg leg now.legs) continues

  pub own-leg : leg_of behind its.row.number ≡ Some leg
  own-leg =
      ap (λ (legs : List Leg). leg_of (record now { legs = legs }) its.row.number) all-legs
      ∙ leg_here leg now.legs alone

  pub leg-behind : leg_of behind job ≡ Some leg
  leg-behind = ap (leg_of behind) (sym row_is) ∙ own-leg

  pub other-legs : (number : ℕ) → number ≢ its.row.number → leg_of behind number ≡ leg_of now number
  other-legs number apart =
      ap (λ (legs : List Leg). leg_of (record now { legs = legs }) number) all-legs
      ∙ leg_there leg number now.legs (equal-apart its.row.number number (λ same. apart (sym same)))

  pub legs-behind : (number : ℕ) → number ≢ job → leg_of behind number ≡ leg_of now number
  legs-behind number apart = other-legs number (λ same. apart (same ∙ row_is))

  -- ---- steps

  only-row : IsOnlyRow now behind job
  only-row = record {
    legs = legs-behind;
    others = rows-behind;
    unended =
        ap (λ (o : Option RunRow). option_map_or (λ row. is_ended row.state) o false) its.row_at
        ∙ ap is_ended (queued-is its.row.state its.queued);
  }

  module _ (stands : step_in coming.place ≡ step) where
    its_steps : HasBegunSteps tables next leg
    its_steps =
        begun-steps now its.row its.other start reach step its.point
        (earlier-start layout now job initiator before step id its start reach kept.events kept.decks begun pointed led covers)
        initiator coming stands sets

    own-steps : HasItsSteps behind job
    own-steps = record {
      led = λ row found selected. is_some-from (leg_of behind job) leg leg-behind;
      unled = λ row found none. absurd (some-not-none leg (sym leg-behind ∙ none));
      steps = λ row fellow found led_by.
          subst (λ (row : RunRow). HasBegunSteps tables row fellow) (some-one next row (run_of behind.tables job) row-behind found)
          (subst (HasBegunSteps tables next) (some-one leg fellow (leg_of behind job) leg-behind led_by) its_steps);
    }

    -- Each run has begun its steps there.
    pub begun-behind : AreBegunSteps behind
    begun-behind = begun-only layout now behind job kept.events only-row begun own-steps
