-- What holds of each mark of the points of the tables goes on to hold through what an event does to the tables.
use Rattle.std.proofs.Common.{◌≡◌, ℕ, Bool, true, false, cond, if◌then◌else◌, List, [], ◌∷◌, ◌++◌, filter, flat_map, map, Some}
use Rattle.std.specs.Prelude.{◌==◌, nat_lt}
use Rattle.std.specs.List.{AllByRecursion}
use Rattle.ckr_base.proofs.Sequences.{each-append, find-holds}
use Rattle.ckr_entry.specs.declared.point.Mark.{Mark}
use Rattle.ckr_events.specs.declared.event.Made.{Made}
use Rattle.ckr_library.specs.declared.sets.Stamp.{Stamp}
use Rattle.ckr_library.specs.NameMaps.{EachEntry, Name, Named}
use Rattle.ckr_library.proofs.Named.{each-with_entry}
use Rattle.ckr_meaning.specs.Allotments.{DdAllotment, opened_all}
use Rattle.ckr_points.specs.Tables.{made_tables, point_rewritten}
use Rattle.ckr_points_invariant.specs.Invariant.{MarksHold}
use Rattle.ckr_points.specs.Marks.{marked_under, marks_for, point_at, with_point}
use Rattle.ckr_points.specs.Rows.{KeptEntry, RunRow, StartPoint, TableSet, TablesModel, run_of, table_ways, with_run}
use Rattle.ckr_points.specs.Soundness.{marks_of_entries, marks_of_row}
use Rattle.ckr_points_invariant.proofs.Points.Rows as rows
use Rattle.ckr_points_invariant.proofs.Points.Sets as sets

-- ---- lists

pub all-front : {X : Type 0} (P : X → Type 0) (xs ys : List X) → AllByRecursion P (xs ++ ys) → AllByRecursion P xs
all-front P [] ys each = tt
all-front P (x ∷ xs) ys each = (each.0, all-front P xs ys each.1)

pub all-back : {X : Type 0} (P : X → Type 0) (xs ys : List X) → AllByRecursion P (xs ++ ys) → AllByRecursion P ys
all-back P [] ys each = each
all-back P (x ∷ xs) ys each = all-back P xs ys each.1

module _ (P : Mark → Type 0) where
  abbrev pub EachEntryHolds : Named TableSet → Type 0
  EachEntryHolds sets = EachEntry (λ (table : TableSet). AllByRecursion P (marks_of_entries table)) sets

  abbrev pub Points : ℕ → ℕ → List StartPoint → Type 0
  Points run count points = AllByRecursion P (flat_map (λ point. point.marks) points)

  abbrev pub Entries : List KeptEntry → Type 0
  Entries entries = AllByRecursion P (flat_map (λ entry. entry.point.marks) entries)

  -- ---- rows and data sets

  pub fewer : (kept : KeptEntry → Bool) (entries : List KeptEntry) → Entries entries → Entries (filter kept entries)
  fewer kept [] each = tt
  fewer kept (first ∷ rest) each =
      let others : Entries (filter kept rest) = fewer kept rest (all-back P first.point.marks (flat_map (λ entry. entry.point.marks) rest) each) in
      elim (kept first) as (λ b. Entries (cond b (first ∷ filter kept rest) (filter kept rest))) [
        | true ↦ each-append P first.point.marks _ (all-front P first.point.marks (flat_map (λ entry. entry.point.marks) rest) each) others
        | false ↦ others
      ]

  pub holds-run : (row : RunRow) (tables : TablesModel) → AllByRecursion P (marks_of_row row) → MarksHold P tables → MarksHold P (with_run row tables)
  holds-run row tables one holds = rows.run-holds Points Entries tt fewer row tables one holds

  pub row-holds : (tables : TablesModel) (number : ℕ) (row : RunRow) → MarksHold P tables → run_of tables number ≡ Some row → AllByRecursion P (marks_of_row row)
  row-holds tables number row holds e = rows.row-holds Points Entries tt fewer tables number row holds e

  pub holds-sets : (tables : TablesModel) (sets : Named TableSet) → EachEntryHolds sets → MarksHold P tables → MarksHold P (record tables { sets = sets })
  holds-sets tables all each holds = rows.sets-hold Points Entries tt fewer tables all each holds

  pub opened_all-holds : (stamp : Stamp) (all : List DdAllotment) (sets : Named TableSet) → EachEntryHolds sets → EachEntryHolds (opened_all table_ways stamp all sets)
  opened_all-holds stamp all those each = sets.opened_all-holds Entries tt fewer stamp all those each

  pub made_all-holds : (stamp : Stamp) (items : List Made) (all : List DdAllotment) (sets : Named TableSet) → EachEntryHolds sets → EachEntryHolds (made_tables stamp items all sets)
  made_all-holds stamp items all those each = sets.made_all-holds Entries tt fewer stamp items all those each

  -- ---- points

  pub points-with : (point : StartPoint) (points : List StartPoint) → AllByRecursion P point.marks → AllByRecursion P (flat_map (λ point. point.marks) points) → AllByRecursion P (flat_map (λ point. point.marks) (with_point point points))
  points-with point [] one each = each-append P point.marks [] one tt
  points-with point (first ∷ rest) one each =
      let mine : AllByRecursion P first.marks = all-front P first.marks (flat_map (λ point. point.marks) rest) each in
      let others : AllByRecursion P (flat_map (λ (point : StartPoint). point.marks) rest) = all-back P first.marks (flat_map (λ point. point.marks) rest) each in
      elim (point.step == first.step) as (λ b. AllByRecursion P (flat_map (λ (point : StartPoint). point.marks) (if b then point ∷ rest else (if nat_lt point.step first.step then point ∷ first ∷ rest else first ∷ with_point point rest)))) [
        | true ↦ each-append P point.marks (flat_map (λ point. point.marks) rest) one others
        | false ↦ elim (nat_lt point.step first.step) as (λ b. AllByRecursion P (flat_map (λ (point : StartPoint). point.marks) (if b then point ∷ first ∷ rest else first ∷ with_point point rest))) [
          | true ↦ each-append P point.marks (flat_map (λ point. point.marks) (first ∷ rest)) one each
          | false ↦ each-append P first.marks (flat_map (λ point. point.marks) (with_point point rest)) mine (points-with point rest one others)
        ]
      ]

  pub points-rewritten : (step : ℕ) (points : List StartPoint) → AllByRecursion P (flat_map (λ point. point.marks) points) → AllByRecursion P (flat_map (λ point. point.marks) (map (point_rewritten step) points))
  points-rewritten step [] each = tt
  points-rewritten step (first ∷ rest) each =
      elim (first.step == step) as (λ b. AllByRecursion P (flat_map (λ (point : StartPoint). point.marks) ((if b then record first { rewritten = true } else first) ∷ map (point_rewritten step) rest))) [
        | true ↦ each-append P first.marks _ (all-front P first.marks (flat_map (λ point. point.marks) rest) each) (points-rewritten step rest (all-back P first.marks (flat_map (λ point. point.marks) rest) each))
        | false ↦ each-append P first.marks _ (all-front P first.marks (flat_map (λ point. point.marks) rest) each) (points-rewritten step rest (all-back P first.marks (flat_map (λ point. point.marks) rest) each))
      ]

  -- a point's marks are among them
  pub point-holds : (points : List StartPoint) (step : ℕ) (point : StartPoint) → AllByRecursion P (flat_map (λ point. point.marks) points) → point_at points step ≡ Some point → AllByRecursion P point.marks
  point-holds points step point each e =
      find-holds (λ (point : StartPoint). AllByRecursion P point.marks) (λ (point : StartPoint). point.step == step) points point (apart points each) e
    where
      apart : (points : List StartPoint) → AllByRecursion P (flat_map (λ (point : StartPoint). point.marks) points) → AllByRecursion (λ (point : StartPoint). AllByRecursion P point.marks) points
      apart [] each = tt
      apart (first ∷ rest) each = (all-front P first.marks (flat_map (λ (point : StartPoint). point.marks) rest) each, apart rest (all-back P first.marks (flat_map (λ (point : StartPoint). point.marks) rest) each))

  -- marks for names
  marked_holds : (mark : Name → Mark) (names : List Name) → ((name : Name) → P (mark name)) → EachEntry P (marked_under mark names)
  marked_holds mark [] each = tt
  marked_holds mark (name ∷ names) each = each-with_entry P name (mark name) (marked_under mark names) (each name) (marked_holds mark names each)

  pub marks-hold : (mark : Name → Mark) (names : List Name) → ((name : Name) → P (mark name)) → AllByRecursion P (marks_for mark names)
  marks-hold mark names each = by (marked_under mark names) (marked_holds mark names each)
    where
      by : (marks : Named Mark) → EachEntry P marks → AllByRecursion P (map (λ entry. entry.1) marks)
      by [] each = tt
      by (entry ∷ rest) each = (each.0, by rest each.1)
