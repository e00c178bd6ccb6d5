-- Behind the selection of a run that continues another one, with the data sets put back, each point says what its run's job has, and the stamps tell what
-- the steps write.
use Rattle.std.proofs.Common.{◌≡◌, ◌==◌, ◌≢◌, ℕ, suc, true, false, List, [], ◌∷◌, ap, sym, ◌∙◌, subst, Option, Some, None}
use Rattle.std.specs.List.{AllByRecursion}
use Rattle.std.specs.Option.{is_some}
use Rattle.ckr_base.proofs.Numbers.{equal-true, number-cases}
use Rattle.ckr_base.proofs.Options.{some-not-none, some-one}
use Rattle.ckr_base.proofs.Sequences.{each-append, each-implies, find-passes}
use Rattle.ckr_entry.specs.declared.point.Mark.{Mark}
use Rattle.ckr_entry.specs.declared.point.Passed.{Passed}
use Rattle.ckr_library.specs.NameMaps.{Name, Named}
use Rattle.ckr_meaning.specs.EffectiveJob.{is_among, names_of_job}
use Rattle.ckr_meaning.specs.JobRun.{at}
use Rattle.ckr_meaning.specs.LibrarySet.{Library}
use Rattle.ckr_meaning.specs.declared.place.Place.{Place}
use Rattle.ckr_meaning.specs.declared.place.Place.TheVariants.{Opened, Within}
use Rattle.ckr_points_library.specs.Commit.{output_names}
use Rattle.ckr_volumes.specs.declared.layout.Layout.{Layout}
use Rattle.ckr_points.specs.Marks.{mark_at, own_names}
use Rattle.ckr_points.specs.Office.{Leg, Office, leg_of, continued_leg}
use Rattle.ckr_points.specs.Restart.{carried_point, step_in}
use Rattle.ckr_points.specs.Rows.{KeptEntry, RunRow, StartPoint, TableSet}
use Rattle.ckr_points_invariant.specs.Invariant.{AreAlike, AreBegun, AreStamped, IsKept, IsMarkedShort, IsReached, MarksHold, PointsHold}
use Rattle.ckr_points_invariant.specs.Points.{AreEntryPoints, ArePointed, AreStepPoints, IsPointAt}
use Rattle.ckr_points_invariant.specs.StartedSteps.{AreBegunSteps}
use Rattle.ckr_points_invariant.proofs.Marks.Changes.{Entries, Points, fewer as fewer-marks}
use Rattle.ckr_points_invariant.proofs.Restart.Points.{back-holds, fewer}
use Rattle.ckr_points_invariant.proofs.Stamps.Tables.{each-weaker, marks-weaker, table-short}
use Rattle.ckr_points_invariant.proofs.Continuations.EarlierRun.{Coming, IsEarlier, leg_from, row_then, sets_then}
use Rattle.ckr_points_invariant.proofs.Continuations.Beginnings.{has-point}
use Rattle.ckr_points_invariant.proofs.Continuations.CarriedPoint.{carried-among}
use Rattle.ckr_points_invariant.proofs.Continuations.Marks.{all-marked}
use Rattle.ckr_points_invariant.proofs.Continuations.Offices as offices
use Rattle.ckr_points_invariant.proofs.Continuations.Selections.Earlier as earlier
use Rattle.ckr_points_invariant.proofs.Continuations.ShortMarks.{point-short, short-marks, shorts-stay}
use Rattle.ckr_points_invariant.proofs.Continuations.Stamps.EarlierSteps as earlier_steps
use Rattle.ckr_points_invariant.proofs.Continuations.Stamps.Places.{all-begun}
use Rattle.ckr_points_invariant.specs.Restorability.{HasPoint}
use Rattle.ckr_points_invariant.specs.EarlierRuns.{MayContinue}

module _ (layout : Layout) (now : Office) (job initiator before step : ℕ) (id : Option Name) (its : MayContinue layout now.tables job initiator (suc before) step id) (start : Library) (reach : List Name)
    (kept : IsKept layout now) (begun : AreBegunSteps now) (pointed : ArePointed now) (led : leg_of now (suc before) ≡ Some (leg_from its.other start reach))
    (covers : (name : Name) → is_some (mark_at its.point.marks name) ≡ is_among (names_of_job its.other.job) name) (coming : Coming) (marks : List Mark) (needed removed : List Name) where
  abbrev pub next : RunRow
  next = row_then now its.row its.other step its.point initiator coming

  abbrev pub leg : Leg
  leg = continued_leg now next (leg_from its.other start reach)

  -- the data sets put back
  abbrev pub sets : Named TableSet
  sets = sets_then now its.other its.owned marks needed removed

  -- the office behind it
  abbrev pub behind : Office
  behind = offices.behind layout now job initiator before step id its start reach kept begun pointed led covers coming sets

  -- the point that it carries
  abbrev point_then : StartPoint
  point_then = carried_point leg.job now.tables.sets its.point

  earlier-start : IsEarlier now its.row its.other (leg_from its.other start reach) step its.point
  earlier-start = earlier.earlier-start layout now job initiator before step id its start reach kept.events kept.decks begun pointed led covers

  others : (number : ℕ) → number ≢ its.row.number → leg_of behind number ≡ leg_of now number
  others = offices.other-legs layout now job initiator before step id its start reach kept begun pointed led covers coming sets

  alone : leg_of now its.row.number ≡ None
  alone = offices.alone layout now job initiator before step id its start reach kept begun pointed led covers coming sets

  own-leg : leg_of behind its.row.number ≡ Some leg
  own-leg = offices.own-leg layout now job initiator before step id its start reach kept begun pointed led covers coming sets

  -- ---- points

  abbrev R : ℕ → ℕ → List StartPoint → Type 0
  R run count = AreStepPoints behind.legs run

  abbrev E : List KeptEntry → Type 0
  E = AreEntryPoints behind.legs

  -- the leg of a point stays, since the run had none
  point-stays : (run : ℕ) (place : Place) (marks : List Mark) (passed : List Passed) → IsPointAt now.legs run place marks passed → IsPointAt behind.legs run place marks passed
  point-stays run place marks passed point = record {
    leg = point.leg;
    led = others run (λ same. some-not-none point.leg (sym point.led ∙ ap (leg_of now) same ∙ alone)) ∙ point.led;
    covers = point.covers;
    marked = point.marked;
    passed_on = point.passed_on;
  }

  points-stay : PointsHold R E now.tables
  points-stay = record {
    rows = each-implies (λ (row : RunRow). AreStepPoints now.legs row.number row.points) (λ (row : RunRow). AreStepPoints behind.legs row.number row.points) now.tables.runs
        (λ row. each-implies
        (λ (point : StartPoint). IsPointAt now.legs row.number (Opened point.step) point.marks point.passed)
        (λ (point : StartPoint). IsPointAt behind.legs row.number (Opened point.step) point.marks point.passed) row.points
        (λ point. point-stays row.number (Opened point.step) point.marks point.passed)) pointed.rows;
    entries = each-weaker (λ (table : TableSet). AreEntryPoints now.legs table.entries) (λ (table : TableSet). AreEntryPoints behind.legs table.entries) now.tables.sets
        (λ table. each-implies
        (λ (entry : KeptEntry). IsPointAt now.legs entry.point.run (Within entry.point.step entry.point.writes) entry.point.marks entry.point.passed)
        (λ (entry : KeptEntry). IsPointAt behind.legs entry.point.run (Within entry.point.step entry.point.writes) entry.point.marks entry.point.passed) table.entries
        (λ entry. point-stays entry.point.run (Within entry.point.step entry.point.writes) entry.point.marks entry.point.passed)) pointed.entries;
  }

  -- where the tables have its own names that the earlier job lacks as the ended jobs left them
  module _ (left : (name : Name) → is_among (own_names next) name ≡ true → is_among (names_of_job its.other.job) name ≡ false → AreAlike now.tables.sets now.library name) where
    -- its point says what its job has at the start of the step
    carried-point : IsPointAt behind.legs its.row.number (Opened point_then.step) point_then.marks point_then.passed
    carried-point =
        let at_start : HasPoint (leg_from its.other start reach) (Opened step) its.point.marks its.point.passed =
        earlier.pointed-start layout now job initiator before step id its start reach kept.events kept.decks begun pointed led covers in
        let has : HasPoint leg (Opened step) point_then.marks point_then.passed =
        has-point now its.row its.other start reach step its.point earlier-start initiator coming left at_start.passed_on in
        subst (λ n. IsPointAt behind.legs its.row.number (Opened n) point_then.marks point_then.passed)
        (sym (equal-true its.point.step step (find-passes (λ (point : StartPoint). point.step == step) its.other.points its.point its.at_point)))
        (record {
          leg = leg;
          led = own-leg;
          covers = carried-among its.point.marks now.tables.sets (names_of_job leg.job);
          marked = (all-marked now its.row its.other start reach step its.point earlier-start initiator coming left).says;
          passed_on = has.passed_on;
        })

    -- Each point says what its run's job has there.
    pub pointed-behind : ArePointed behind
    pointed-behind =
        back-holds R E tt (fewer behind.legs) now.tables next marks (output_names its.other.job.root its.owned) needed removed (carried-point, tt) points-stay

  -- ---- stamps

  abbrev P : Mark → Type 0
  P = IsMarkedShort behind

  -- each mark of a point is short there
  marks-stay : MarksHold P now.tables
  marks-stay =
      marks-weaker (IsMarkedShort now) P now.tables
      (λ mark short. (shorts-stay now behind its.row.number others alone (mark ∷ []) (short, tt)).0) kept.stamps.marks

  carried-marks : AllByRecursion P point_then.marks
  carried-marks =
      short-marks now its.row its.other start reach step its.point earlier-start initiator coming behind others alone
      (λ name table. table-short layout now name table kept)
      (point-short now its.row its.other start reach step its.point earlier-start initiator coming kept.stamps)

  marks-behind : MarksHold P behind.tables
  marks-behind =
      back-holds (Points P) (Entries P) tt (fewer-marks P) now.tables next marks (output_names its.other.job.root its.owned) needed removed
      (each-append P point_then.marks [] carried-marks tt) marks-stay

  module _ (stands : step_in coming.place ≡ step) where
    other-led : leg_of now its.other.number ≡ Some (leg_from its.other start reach)
    other-led = ap (leg_of now) (earlier.other_is layout now job initiator before step id its start reach kept.events kept.decks begun pointed led covers) ∙ led

    -- what the run's job has at a place, and what another run's has
    place-behind : (number : ℕ) (fellow : Leg) (place : Place) → leg_of behind number ≡ Some fellow → IsReached fellow place → AreBegun behind (at fellow.job fellow.start place).sets
    place-behind number fellow place found =
        number-cases number its.row.number
        (λ here.
        subst (λ (fellow : Leg). IsReached fellow place → AreBegun behind (at fellow.job fellow.start place).sets)
        (some-one leg fellow (leg_of behind its.row.number) own-leg (ap (leg_of behind) (sym here) ∙ found))
        (all-begun now its.row its.other start reach step its.point earlier-start initiator coming stands kept.stamps other-led alone behind own-leg others place))
        (λ apart reached.
        earlier_steps.begun-behind now behind its.row.number alone others (at fellow.job fellow.start place).sets
        (kept.stamps.places number fellow place (sym (others number apart) ∙ found) reached))

    -- The stamps tell what the steps write.
    pub stamped-behind : AreStamped behind
    stamped-behind = record {
      begun = earlier_steps.begun-behind now behind its.row.number alone others now.library kept.stamps.begun;
      places = place-behind;
      marks = marks-behind;
    }
