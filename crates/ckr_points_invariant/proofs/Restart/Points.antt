-- What holds of the points of the tables goes on to hold where a run goes back to one of them.
use Rattle.std.proofs.Common.{ℕ, Bool, true, false, cond, if◌then◌else◌, List, [], ◌∷◌, filter}
use Rattle.std.specs.Prelude.{◌==◌, nat_lt}
use Rattle.ckr_entry.specs.declared.point.Mark.{Mark}
use Rattle.ckr_library.specs.NameMaps.{Name}
use Rattle.ckr_meaning.specs.declared.place.Place.TheVariants.{Opened}
use Rattle.ckr_points.specs.Marks.{put_back, removed_all, with_point}
use Rattle.ckr_points.specs.Office.{Leg}
use Rattle.ckr_points.specs.Rows.{KeptEntry, RunRow, StartPoint, TableSet, TablesModel, with_run}
use Rattle.ckr_points_invariant.specs.Invariant.{PointsHold}
use Rattle.ckr_points_invariant.specs.Points.{AreEntryPoints, AreStepPoints, IsPointAt}
use Rattle.ckr_points_invariant.proofs.Points.Rows as rows
use Rattle.ckr_points_invariant.proofs.PutBack.Sets.{put_back-holds, removed_all-holds}

-- ---- what the jobs have

pub fewer : (legs : List Leg) (kept : KeptEntry → Bool) (entries : List KeptEntry) → AreEntryPoints legs entries → AreEntryPoints legs (filter kept entries)
fewer legs kept [] each = tt
fewer legs kept (first ∷ rest) each =
    elim (kept first) as (λ b. AreEntryPoints legs (cond b (first ∷ filter kept rest) (filter kept rest))) [
      | true ↦ (each.0, fewer legs kept rest each.1)
      | false ↦ fewer legs kept rest each.1
    ]

pub points-with : (legs : List Leg) (run : ℕ) (point : StartPoint) (points : List StartPoint) → IsPointAt legs run (Opened point.step) point.marks point.passed → AreStepPoints legs run points → AreStepPoints legs run (with_point point points)
points-with legs run point [] one each = (one, tt)
points-with legs run point (first ∷ rest) one each =
    elim (point.step == first.step) as (λ b. AreStepPoints legs run (if b then point ∷ rest else (if nat_lt point.step first.step then point ∷ first ∷ rest else first ∷ with_point point rest))) [
      | true ↦ (one, each.1)
      | false ↦ elim (nat_lt point.step first.step) as (λ b. AreStepPoints legs run (if b then point ∷ first ∷ rest else first ∷ with_point point rest)) [
        | true ↦ (one, each)
        | false ↦ (each.0, points-with legs run point rest one each.1)
      ]
    ]

-- ---- put back

module _ (R : ℕ → ℕ → List StartPoint → Type 0) (E : List KeptEntry → Type 0) (none : E []) (keeps : (kept : KeptEntry → Bool) (entries : List KeptEntry) → E entries → E (filter kept entries)) where
  -- with a run's row, and with data sets that are removed and put back
  pub back-holds : (tables : TablesModel) (next : RunRow) (marks : List Mark) (outputs needed removed : List Name) → R next.number next.count next.points → PointsHold R E tables → PointsHold R E (with_run next (record tables { sets = put_back marks outputs needed (removed_all removed tables.sets) }))
  back-holds tables next marks outputs needed removed mine holds =
      rows.run-holds R E none keeps next (record tables { sets = put_back marks outputs needed (removed_all removed tables.sets) }) mine
      (rows.sets-hold R E none keeps tables (put_back marks outputs needed (removed_all removed tables.sets))
      (put_back-holds E keeps marks outputs needed (removed_all removed tables.sets)
      (removed_all-holds (λ (table : TableSet). E table.entries) removed tables.sets holds.entries)) holds)
