-- What is known of the earlier run where a run may be selected that continues it.
use Rattle.std.proofs.Common.{◌≡◌, ◌==◌, ℕ, suc, true, List, ap, sym, ◌∙◌, subst, Option, Some}
use Rattle.std.specs.List.{list_all}
use Rattle.std.specs.Option.{is_some}
use Rattle.ckr_base.proofs.Numbers.{equal-true}
use Rattle.ckr_base.proofs.Options.{some-one}
use Rattle.ckr_base.proofs.Sequences.{each-get, find-holds, find-passes}
use Rattle.ckr_library.proofs.Named.{name-same}
use Rattle.ckr_library.specs.NameMaps.{Name}
use Rattle.ckr_meaning.specs.EffectiveJob.{is_among, names_of_job}
use Rattle.ckr_meaning.specs.LibrarySet.{Library}
use Rattle.ckr_meaning.specs.declared.place.Place.TheVariants.{Opened}
use Rattle.ckr_volumes.specs.declared.layout.Layout.{Layout}
use Rattle.ckr_points.specs.Marks.{deck_names, mark_at}
use Rattle.ckr_points.specs.Office.{Leg, Office, leg_of}
use Rattle.ckr_points.specs.Payload.{is_orderly_dd}
use Rattle.ckr_points.specs.Restart.{continued_row}
use Rattle.ckr_points.specs.Rows.{RunRow, StartPoint, run_of}
use Rattle.ckr_points_invariant.specs.Invariant.{AreOrderly, IsAgreed}
use Rattle.ckr_points_invariant.specs.Points.{ArePointed, AreStepPoints, IsPointAt}
use Rattle.ckr_points_invariant.specs.StartedSteps.{AreBegunSteps, HasBegunSteps}
use Rattle.ckr_points_invariant.proofs.Decks.Events.{row-orderly}
use Rattle.ckr_points_invariant.proofs.Holders.Rows.{step-all}
use Rattle.ckr_points_invariant.proofs.Restart.Invariant.{point-covers, point-of, point-says}
use Rattle.ckr_points_invariant.proofs.Continuations.EarlierRun.{IsEarlier, leg_from}
use Rattle.ckr_points_invariant.specs.Restorability.{HasPoint}
use Rattle.ckr_points_invariant.specs.EarlierRuns.{MayContinue}

module _ (layout : Layout) (now : Office) (job initiator before step : ℕ) (id : Option Name) (its : MayContinue layout now.tables job initiator (suc before) step id) (start : Library) (reach : List Name)
    (kept : IsAgreed layout now) (pointed : ArePointed now) (led : leg_of now (suc before) ≡ Some (leg_from its.other start reach)) where
  -- its point is one of the earlier run's job, at the start of the step
  pub point-at : IsPointAt now.legs (suc before) (Opened step) its.point.marks its.point.passed
  point-at =
      subst (λ run. IsPointAt now.legs run (Opened step) its.point.marks its.point.passed) (kept.numbered (suc before) its.other its.other_at)
      (subst (λ n. IsPointAt now.legs its.other.number (Opened n) its.point.marks its.point.passed)
      (equal-true its.point.step step (find-passes (λ (point : StartPoint). point.step == step) its.other.points its.point its.at_point))
      (find-holds (λ (point : StartPoint). IsPointAt now.legs its.other.number (Opened point.step) point.marks point.passed) (λ (point : StartPoint). point.step == step) its.other.points its.point
      (each-get (λ (row : RunRow). AreStepPoints now.legs row.number row.points) now.tables.runs before its.other pointed.rows its.other_at) its.at_point))

  -- It marks the names of that job and no other.
  pub start-covers : (name : Name) → is_some (mark_at its.point.marks name) ≡ is_among (names_of_job its.other.job) name
  start-covers = point-covers now (suc before) (leg_from its.other start reach) (Opened step) its.point.marks its.point.passed led point-at

module _ (layout : Layout) (now : Office) (job initiator before step : ℕ) (id : Option Name) (its : MayContinue layout now.tables job initiator (suc before) step id) (start : Library) (reach : List Name)
    (kept : IsAgreed layout now) (orderly : AreOrderly now.tables) (begun : AreBegunSteps now) (pointed : ArePointed now) (led : leg_of now (suc before) ≡ Some (leg_from its.other start reach))
    (covers : (name : Name) → is_some (mark_at its.point.marks name) ≡ is_among (names_of_job its.other.job) name) where
  abbrev pub its_leg : Leg
  its_leg = leg_from its.other start reach

  pub row_is : its.row.number ≡ job
  row_is = kept.numbered job its.row its.row_at

  pub other_is : its.other.number ≡ suc before
  other_is = kept.numbered (suc before) its.other its.other_at

  begun_so : HasBegunSteps now.tables its.other its_leg
  begun_so = begun.runs (suc before) its.other its_leg its.other_at led

  -- the DDs of the step are those of an orderly deck
  pub step-orderly : list_all is_orderly_dd its.owned.step.dds ≡ true
  step-orderly = step-all (λ owned. list_all is_orderly_dd owned.step.dds) its.other.job step its.owned begun_so.orderly its.found

  -- its point says what the earlier run's job has at the start of the step
  pub pointed-start : HasPoint its_leg (Opened step) its.point.marks its.point.passed
  pointed-start = point-of now (suc before) its_leg (Opened step) its.point.marks its.point.passed led (point-at layout now job initiator before step id its start reach kept pointed led)

  pub earlier-start : IsEarlier now its.row its.other its_leg step its.point
  earlier-start = record {
    row_at = ap (run_of now.tables) row_is ∙ its.row_at;
    queued = its.queued;
    orderly = row-orderly now.tables job its.row orderly its.row_at;
    other_at = ap (run_of now.tables) other_is ∙ its.other_at;
    ended = its.ended;
    named = name-same its.other.deck.name its.row.deck.name its.named;
    steps = begun_so;
    begun = begun_so.steps step its.point its.at_point;
    has = its.at_point;
    marks = record {
      marked = λ name among. covers name ∙ among;
      alone = λ name has. sym (covers name) ∙ has;
      says = point-says now (suc before) its_leg (Opened step) its.point.marks its.point.passed led (point-at layout now job initiator before step id its start reach kept pointed led);
    };
  }

  pub same-step : its.owned ≡ earlier-start.begun.owned
  same-step = some-one its.owned earlier-start.begun.owned _ its.found earlier-start.begun.found

  -- its row before it goes back
  abbrev pub row_before : RunRow
  row_before = continued_row its.row its.other step its.point initiator now.tables.sets

  -- the names that it may take over
  abbrev pub others : List Name
  others = deck_names row_before.job.root row_before.number row_before.deck
