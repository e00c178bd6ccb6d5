-- The marks of the point that a run begins with which continues another one are short, as the earlier run's are and those of the data sets of
-- the tables, and stay so while the legs of the other runs stay.
use Rattle.std.proofs.Common.{◌≡◌, ◌≢◌, ℕ, List, ap, sym, ◌∙◌, subst, Option, Some, None}
use Rattle.std.specs.List.{AllByRecursion}
use Rattle.std.specs.Option.{is_some, option_map, option_map_or}
use Rattle.std.proofs.lemmas.Bool.{false≢true}
use Rattle.std.proofs.lemmas.Option.{same_Some}
use Rattle.ckr_base.proofs.Options.{option-cases, some-not-none}
use Rattle.ckr_base.proofs.Sequences.{each-implies, find-holds}
use Rattle.ckr_entry.specs.declared.point.Mark.{Mark}
use Rattle.ckr_entry.specs.declared.point.Present.{Present}
use Rattle.ckr_library.specs.NameMaps.{Name, Named, entry_at, same_name}
use Rattle.ckr_meaning.specs.EffectiveJob.{Effective, names_of_job}
use Rattle.ckr_meaning.specs.LibrarySet.{Library}
use Rattle.ckr_points.specs.Marks.{mark_at, mark_now, present_of}
use Rattle.ckr_points.specs.Office.{Leg, Office, leg_of, continued_leg}
use Rattle.ckr_points.specs.Restart.{carried_point}
use Rattle.ckr_points.specs.Rows.{RunRow, StartPoint, TableSet}
use Rattle.ckr_points_invariant.specs.Invariant.{AreStamped, IsMarkedShort, IsShortMark}
use Rattle.ckr_points_invariant.proofs.Continuations.CarriedPoint.{carried_mark}
use Rattle.ckr_points_invariant.proofs.Marks.Changes.{marks-hold, point-holds, row-holds}
use Rattle.ckr_points_invariant.proofs.Stamps.Tables.{short-legs}
use Rattle.ckr_points_invariant.proofs.Continuations.EarlierRun.{Coming, IsEarlier, leg_from, row_then}

-- ---- a carried point

module _ (office : Office) (sets : Named TableSet) (each : (name : Name) (table : TableSet) → entry_at sets name ≡ Some table → IsShortMark office name (present_of table)) where
  -- a name as the tables are
  now-short : (name : Name) → IsMarkedShort office (mark_now sets name)
  now-short name present e =
      option-cases (entry_at sets name)
      (λ none. absurd (some-not-none present (sym e ∙ ap (option_map present_of) none)))
      (λ table found. subst (IsShortMark office name) (same_Some (present_of table) present (sym (ap (option_map present_of) found) ∙ e)) (each name table found))

  -- the earlier mark, or as the tables are
  mark-short : (marks : List Mark) → AllByRecursion (IsMarkedShort office) marks → (name : Name) → IsMarkedShort office (carried_mark marks sets name)
  mark-short marks short name =
      option-cases (mark_at marks name)
      (λ none. subst (λ (o : Option Mark). IsMarkedShort office (option_map_or (λ mark. mark) o (mark_now sets name))) (sym none) (now-short name))
      (λ mark found.
      subst (λ (o : Option Mark). IsMarkedShort office (option_map_or (λ mark. mark) o (mark_now sets name))) (sym found)
      (find-holds (IsMarkedShort office) (λ (one : Mark). same_name name one.name) marks mark short found))

  pub carried-short : (job : Effective) (point : StartPoint) → AllByRecursion (IsMarkedShort office) point.marks → AllByRecursion (IsMarkedShort office) (carried_point job sets point).marks
  carried-short job point short = marks-hold (IsMarkedShort office) (carried_mark point.marks sets) (names_of_job job) (mark-short point.marks short)

-- ---- an office with a leg more

module _ (now behind : Office) (run : ℕ) (others : (number : ℕ) → number ≢ run → leg_of behind number ≡ leg_of now number) (alone : leg_of now run ≡ None) where
  -- a short mark has the stamp of a run that was selected, and its leg stays
  short-stays : (name : Name) (present : Present) → IsShortMark now name present → IsShortMark behind name present
  short-stays name present short =
      short-legs now behind name present
      (others present.stamp.run (λ same. false≢true (sym (ap is_some (ap (leg_of now) same ∙ alone)) ∙ short.led))) short

  pub shorts-stay : (marks : List Mark) → AllByRecursion (IsMarkedShort now) marks → AllByRecursion (IsMarkedShort behind) marks
  shorts-stay marks each =
      each-implies (IsMarkedShort now) (IsMarkedShort behind) marks (λ mark short present e. short-stays mark.name present (short present e)) each

-- ---- the run that is selected

module _ (now : Office) (row other : RunRow) (start : Library) (reach : List Name) (step : ℕ) (point : StartPoint) (earlier : IsEarlier now row other (leg_from other start reach) step point)
    (initiator : ℕ) (coming : Coming) where
  abbrev pub next : RunRow
  next = row_then now row other step point initiator coming

  abbrev pub leg : Leg
  leg = continued_leg now next (leg_from other start reach)

  -- those of the earlier run's point are, where the points are stamped
  pub point-short : AreStamped now → AllByRecursion (IsMarkedShort now) point.marks
  point-short stamps =
      point-holds (IsMarkedShort now) other.points step point
      (row-holds (IsMarkedShort now) now.tables other.number other stamps.marks earlier.other_at) earlier.has

  -- the marks of its point are short, where the data sets of the tables and the earlier point are marked so, and the run has no leg yet
  module _ (behind : Office) (others : (number : ℕ) → number ≢ row.number → leg_of behind number ≡ leg_of now number) (alone : leg_of now row.number ≡ None)
      (each : (name : Name) (table : TableSet) → entry_at now.tables.sets name ≡ Some table → IsShortMark now name (present_of table)) where
    pub short-marks : AllByRecursion (IsMarkedShort now) point.marks → AllByRecursion (IsMarkedShort behind) (carried_point leg.job now.tables.sets point).marks
    short-marks short =
        shorts-stay now behind row.number others alone (carried_point leg.job now.tables.sets point).marks
        (carried-short now now.tables.sets each leg.job point short)
