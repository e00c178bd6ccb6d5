-- What is proved of a run that continues another one, by all that is asked of the two.
use Rattle.std.proofs.Common.{◌≡◌, ℕ, true, false, List, [], ◌++◌}
use Rattle.ckr_base.proofs.Options.{is_some-true}
use Rattle.ckr_entry.specs.declared.point.Mark.{Mark}
use Rattle.ckr_library.specs.NameMaps.{Name, Named, entry_at}
use Rattle.ckr_meaning.specs.EffectiveJob.{is_among}
use Rattle.ckr_meaning.specs.JobRun.{at}
use Rattle.ckr_meaning.specs.LibrarySet.{Library}
use Rattle.ckr_points.specs.Marks.{own_names}
use Rattle.ckr_points.specs.Office.{Leg, Office, continued_leg}
use Rattle.ckr_points.specs.Rows.{RunRow, StartPoint, TableSet}
use Rattle.ckr_points_invariant.specs.Invariant.{AreAlike, IsAtPlace}
use Rattle.ckr_points_invariant.specs.StartedSteps.{HasBegunSteps}
use Rattle.ckr_points_invariant.proofs.Continuations.EarlierRun.{Coming, IsContinued, leg_from, row_then, sets_then, tables_then}
use Rattle.ckr_points_invariant.proofs.Continuations.BegunSteps.{begun-steps}
use Rattle.ckr_points_invariant.proofs.Continuations.DataSets.{back-alike, back-apart}
use Rattle.ckr_points_invariant.proofs.Continuations.Places.{comes-stands, most, place-then}

module _ (now : Office) (row other : RunRow) (start : Library) (reach : List Name) (step : ℕ) (point : StartPoint) (initiator : ℕ) (coming : Coming) (marks : List Mark) (needed removed others : List Name)
    (its : IsContinued now row other start reach step point initiator coming marks needed removed others) where
  abbrev next : RunRow
  next = row_then now row other step point initiator coming

  abbrev leg : Leg
  leg = continued_leg now next (leg_from other start reach)

  pub place-continued : (sets : Named TableSet) → IsAtPlace (tables_then now next sets) next leg
  place-continued sets =
      is_some-true row.deck.restart its.restart
      (λ restart has. place-then now row other start reach step point its.earlier initiator coming sets its.comes its.passed marks needed removed others its.back restart has its.left)

  pub agrees-continued : (name : Name) → is_among leg.reach name ≡ true → AreAlike (sets_then now other its.earlier.begun.owned marks needed removed) (at leg.job leg.start coming.place).sets name
  agrees-continued name among =
      back-alike now row other start reach step point its.earlier initiator coming (comes-stands step (most now row other start reach step point its.earlier initiator coming []) coming.place its.comes) marks needed removed (own_names next ++ others) its.back its.left its.making name among

  pub outside-continued : (name : Name) → is_among (own_names next) name ≡ false → entry_at (sets_then now other its.earlier.begun.owned marks needed removed) name ≡ entry_at now.tables.sets name
  outside-continued name out =
      back-apart now row other start reach step point its.earlier initiator coming (comes-stands step (most now row other start reach step point its.earlier initiator coming []) coming.place its.comes) marks needed removed (own_names next ++ others) its.back name out

  pub begun-continued : (sets : Named TableSet) → HasBegunSteps (tables_then now next sets) next leg
  begun-continued sets =
      begun-steps now row other start reach step point its.earlier initiator coming (comes-stands step (most now row other start reach step point its.earlier initiator coming []) coming.place its.comes) sets
