-- Behind the selection of a continued run each holder reaches names of its deck.
use Rattle.std.proofs.Common.{◌≡◌, ℕ, suc, List, ◌++◌, refl, ap, Option, Some}
use Rattle.std.specs.Option.{is_some}
use Rattle.ckr_base.proofs.Numbers.{number-cases}
use Rattle.ckr_entry.specs.declared.point.Mark.{Mark}
use Rattle.ckr_library.specs.NameMaps.{Name, Named}
use Rattle.ckr_meaning.specs.EffectiveJob.{is_among, names_of_job}
use Rattle.ckr_meaning.specs.LibrarySet.{Library}
use Rattle.ckr_volumes.specs.declared.layout.Layout.{Layout}
use Rattle.ckr_points.specs.Marks.{deck_names, lost_names, mark_at, own_names}
use Rattle.ckr_points.specs.Office.{Leg, Office, leg_of, continued_leg}
use Rattle.ckr_points.specs.Rows.{RunRow, TableSet}
use Rattle.ckr_points.specs.RuleCases.{is_ended}
use Rattle.ckr_points_invariant.specs.Invariant.{IsHolder, IsKept}
use Rattle.ckr_points_invariant.specs.Points.{ArePointed}
use Rattle.ckr_points_invariant.specs.StartedSteps.{AreBegunSteps}
use Rattle.ckr_points_invariant.proofs.Continuations.EarlierRun.{Coming, leg_from, row_then, sets_then}
use Rattle.ckr_points_invariant.specs.JobNames.{AreKin, HasUses, KeepsJobNames}
use Rattle.ckr_points_invariant.specs.EarlierRuns.{MayContinue}
use Rattle.ckr_points_invariant.proofs.Continuations.Agreement as agreement
use Rattle.ckr_points_invariant.proofs.Continuations.Offices as offices
use Rattle.ckr_points_invariant.proofs.Continuations.ReachedNames.DeckNames.{reach-then}
use Rattle.ckr_points_invariant.proofs.Holders.JobNames.{one-row-keeps, uses-stay}
use Rattle.ckr_points_invariant.proofs.Holders.Rows.{queued-is}

module _ (layout : Layout) (now : Office) (job initiator before step : ℕ) (id : Option Name) (its : MayContinue layout now.tables job initiator (suc before) step id) (start : Library) (reach : List Name)
    (kept : IsKept layout now) (begun : AreBegunSteps now) (pointed : ArePointed now) (led : leg_of now (suc before) ≡ Some (leg_from its.other start reach))
    (covers : (name : Name) → is_some (mark_at its.point.marks name) ≡ is_among (names_of_job its.other.job) name) (coming : Coming) (marks : List Mark) (needed removed : List Name) where
  abbrev next : RunRow
  next = row_then now its.row its.other step its.point initiator coming

  abbrev leg : Leg
  leg = continued_leg now next (leg_from its.other start reach)

  abbrev sets : Named TableSet
  sets = sets_then now its.other its.owned marks needed removed

  abbrev behind : Office
  behind = agreement.behind layout now job initiator before step id its start reach kept begun pointed led covers coming marks needed removed

  keeps : KeepsJobNames now.tables behind.tables
  keeps =
      one-row-keeps now.tables behind.tables job its.row next its.row_at (offices.row-behind layout now job initiator before step id its start reach kept begun pointed led covers coming sets) refl
      (ap is_ended (queued-is its.row.state its.queued))
      (offices.rows-behind layout now job initiator before step id its start reach kept begun pointed led covers coming sets)

  -- each holder reaches names of its deck
  module _ (kin : AreKin now.tables its.other) (found : Named TableSet) (lost : coming.lost ≡ lost_names marks (own_names next ++ deck_names next.job.root next.number next.deck) found coming.passed)
      (named : (number : ℕ) (row : RunRow) (its_leg : Leg) → IsHolder now number row its_leg → HasUses now.tables row its_leg) where
    pub named-behind : (number : ℕ) (row : RunRow) (its_leg : Leg) → IsHolder behind number row its_leg → HasUses behind.tables row its_leg
    named-behind number row its_leg holder =
        number-cases number job
        (λ same.
        agreement.holder-same layout now job initiator before step id its start reach kept begun pointed led covers coming marks needed removed (HasUses behind.tables)
        (uses-stay now.tables behind.tables keeps next next refl refl leg refl (reach-then layout now job initiator before step id its start reach kept.events.numbered coming kin marks found lost)) number row its_leg same holder)
        (λ apart.
        uses-stay now.tables behind.tables keeps row row refl refl its_leg refl
        (named number row its_leg (agreement.holder-before layout now job initiator before step id its start reach kept begun pointed led covers coming marks needed removed number row its_leg apart holder)))
