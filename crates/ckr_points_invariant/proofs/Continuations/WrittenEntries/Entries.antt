-- A run that continues another one at an entry has grown in its step since the point that it begins with.
use Rattle.std.proofs.Common.{◌≡◌, ◌≤◌, ℕ, true, List, [], ap, sym, ◌∙◌, subst, Option, Some}
use Rattle.std.specs.Prelude.{nat_le}
use Rattle.std.specs.Option.{option_map_or}
use Rattle.std.proofs.lemmas.Option.{same_Some}
use Rattle.ckr_base.proofs.Options.{some-one}
use Rattle.ckr_entry.specs.declared.point.Present.{Present}
use Rattle.ckr_library.specs.Catalog.{ends_within}
use Rattle.ckr_library.specs.NameMaps.{Name, Named, entry_at}
use Rattle.ckr_meaning.specs.EffectiveJob.{OwnedStep, is_among, names_of, names_of_job, step_at}
use Rattle.ckr_meaning.specs.LibrarySet.{Library}
use Rattle.ckr_points_library.specs.Commit.{output_names}
use Rattle.ckr_points.specs.Marks.{point_at, present_at}
use Rattle.ckr_points.specs.Office.{Leg, Office, leg_of, continued_leg}
use Rattle.ckr_points.specs.Restart.{carried_point, kept_at, step_in}
use Rattle.ckr_points.specs.Rows.{KeptEntry, RunRow, StartPoint, TableSet}
use Rattle.ckr_points.specs.Tables.{fresh_effect, is_checkpoints, name_with_role}
use Rattle.ckr_points_invariant.specs.Readiness.{KeepsEntry}
use Rattle.ckr_points_invariant.specs.WrittenEntries.{AreWrittenEntries, HasGrown, IsEntryOf, IsWrittenEntry, check_set, is_behind_mark, is_no_shorter}
use Rattle.ckr_points_invariant.proofs.Continuations.CarriedPoint.{carried-known}
use Rattle.ckr_points_invariant.proofs.Holders.Places.{outputs-among}
use Rattle.ckr_points_invariant.proofs.Readiness.Runs.{kept-entry}
use Rattle.ckr_points_invariant.proofs.Readiness.Restarts.{back-keeps}
use Rattle.ckr_points_invariant.proofs.Select.Invariant.{among-step}
use Rattle.ckr_points_invariant.proofs.WrittenEntries.Entries.{written-by}
use Rattle.ckr_points_invariant.proofs.WrittenEntries.Growth.{IsEffectLong}
use Rattle.ckr_points_invariant.proofs.WrittenEntries.Offices.{IsGrown}
use Rattle.ckr_points_invariant.proofs.Continuations.EarlierRun.{Coming, IsEarlier, leg_from, row_then, sets_then}
use Rattle.ckr_points_invariant.proofs.Continuations.Marks.{carried-is}
use Rattle.ckr_points_invariant.proofs.Continuations.Walks as walks
use Rattle.ckr_points_invariant.proofs.Continuations.WrittenEntries.Marks.{kept-so, own-longer, within-longer}

-- It comes to an entry that the earlier run wrote in the step, which is in effect then.
module _ (now : Office) (row other : RunRow) (start : Library) (reach : List Name) (step : ℕ) (point : StartPoint) (earlier : IsEarlier now row other (leg_from other start reach) step point)
    (initiator : ℕ) (coming : Coming) (needed : List Name) (written : AreWrittenEntries now) (led : leg_of now other.number ≡ Some (leg_from other start reach))
    (set id : Name) (entry : KeptEntry) (found : kept_at now.tables.sets set id ≡ Some entry) (run : entry.point.run ≡ other.number) (at_step : entry.point.step ≡ step)
    (in_effect : coming.effect ≡ Some (fresh_effect set entry.kept)) where
  abbrev next : RunRow
  next = row_then now row other step point initiator coming

  abbrev leg : Leg
  leg = continued_leg now next (leg_from other start reach)

  abbrev owned : OwnedStep
  owned = walks.owned now row other start reach step point earlier initiator coming

  abbrev pub back : Named TableSet
  back = sets_then now other owned entry.point.marks needed []

  abbrev carried : StartPoint
  carried = carried_point leg.job now.tables.sets point

  kept : KeepsEntry now.tables.sets set entry.kept.id entry × IsWrittenEntry now set entry
  kept = kept-so now set id entry written found

  -- what the earlier run has of it
  of-other : IsEntryOf other (leg_from other start reach) set entry
  of-other = written-by now other.number other (leg_from other start reach) set entry earlier.other_at led run kept.1

  owned-is : of-other.owned ≡ owned
  owned-is = some-one of-other.owned owned (step_at other.job step) (ap (step_at other.job) (sym at_step) ∙ of-other.found) earlier.begun.found

  point-is : of-other.point ≡ point
  point-is = some-one of-other.point point (point_at other.points step) (ap (point_at other.points) (sym at_step) ∙ of-other.has) earlier.has

  check-is : check_set next owned ≡ set
  check-is = ap (λ (its : OwnedStep). name_with_role other.job.root its is_checkpoints) (sym owned-is) ∙ of-other.named

  output : is_among (output_names other.job.root owned) set ≡ true
  output = ap (λ (its : OwnedStep). is_among (output_names other.job.root its) set) (sym owned-is) ∙ of-other.output

  -- the point that the run begins with marks the data set as the earlier one
  carried-same : present_at carried.marks set ≡ present_at point.marks set
  carried-same =
      carried-known point.marks now.tables.sets (names_of_job leg.job) set
      (among-step leg.job step owned set (walks.step-here now row other start reach step point earlier initiator coming) listed)
      (earlier.marks.marked set (among-step other.job step owned set earlier.begun.found listed))
    where
      listed : is_among (names_of other.job.root owned) set ≡ true
      listed = outputs-among other.job.root owned set output

  behind-point : is_behind_mark point.marks set entry.kept ≡ true
  behind-point = ap (λ (its : StartPoint). is_behind_mark its.marks set entry.kept) (sym point-is) ∙ of-other.stands.behind

  -- its data set keeps it
  pub kept-then : KeepsEntry back set entry.kept.id entry
  kept-then = back-keeps entry.point.marks (output_names other.job.root owned) needed now.tables.sets set entry.kept.id entry output of-other.back kept.0

  since-set : (present : Present) (table : TableSet) → is_among (output_names other.job.root owned) set ≡ true → present_at carried.marks set ≡ Some present → entry_at back set ≡ Some table → present.length ≤ table.set.length
  since-set present table among marked there =
      within-longer point.marks set entry behind-point present table.set.length (sym carried-same ∙ marked)
      (subst (λ (its : TableSet). ends_within its.set.length entry.kept ≡ true) (some-one kept-then.table table (entry_at back set) kept-then.at there) kept-then.ends)

  effect-set : IsEffectLong next owned carried.marks back (fresh_effect set entry.kept)
  effect-set one there = (
    sym check-is,
    subst (λ (its : KeptEntry). is_no_shorter carried.marks its.point.marks set ≡ true)
        (some-one entry one (kept_at back set entry.kept.id) (kept-entry back set entry.kept.id entry kept-then) there)
        (ap (λ (o : Option Present). option_map_or (λ (present : Present). option_map_or (λ (other : Present). nat_le present.length other.length) (present_at entry.point.marks set) true) o true) carried-same
        ∙ own-longer point.marks set entry behind-point of-other.back),
  )

  -- It has grown in the step since the point that it begins with.
  pub mine-grown : HasGrown back next owned carried.marks
  mine-grown = record {
    since =
        subst (λ name. (present : Present) (table : TableSet) → is_among (output_names other.job.root owned) name ≡ true → present_at carried.marks name ≡ Some present → entry_at back name ≡ Some table → present.length ≤ table.set.length)
        (sym check-is) since-set;
    effect = λ effect one got. subst (IsEffectLong next owned carried.marks back) (same_Some (fresh_effect set entry.kept) effect (sym in_effect ∙ got)) effect-set one;
  }

  -- so it has in the step that it is in
  pub own-grown : step_in coming.place ≡ step → IsGrown back next
  own-grown stands within its_owned its_point its_step got =
      subst (λ (its : OwnedStep). HasGrown back next its its_point.marks)
      (walks.step-same now row other start reach step point earlier initiator coming its_owned (ap (step_at leg.job) (sym stands) ∙ its_step))
      (subst (λ (its : StartPoint). HasGrown back next owned its.marks)
      (some-one carried its_point (point_at next.points step) (carried-is now row other start reach step point earlier initiator coming) (ap (point_at next.points) (sym stands) ∙ got))
      mine-grown)
