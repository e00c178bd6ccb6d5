-- A plan by which a run goes on at a checkpoint, on a trusted disk: the entry is read as the tables keep it, and its point stands for it behind the event.
use Rattle.std.proofs.Common.{◌≡◌, ℕ, suc, Bool, true, IsTrue, List, [], ◌∷◌, find, refl, ap, sym, ◌∙◌, Option, Some, None, Ok, Err, cond}
use Rattle.std.specs.Prelude.{option_and_then}
use Rattle.std.specs.List.{AllByRecursion}
use Rattle.std.specs.Cmp.Lexicographic.{pointwise}
use Rattle.std.specs.Option.{option_eq, option_map, option_map_or}
use Rattle.std.proofs.lemmas.Bool.{and_from}
use Rattle.ckr_points_invariant.specs.EarlierRuns.{IsEntryOf, MayContinue}
use Rattle.ckr_points_invariant.proofs.Continuations.Freshness.{mark-itself}
use Rattle.ckr_base.proofs.Numbers.{equal-itself}
use Rattle.ckr_base.proofs.Options.{some-one}
use Rattle.ckr_entry.specs.Entry.{entry_in}
use Rattle.ckr_entry.specs.Parts.{Entry}
use Rattle.ckr_entry.specs.declared.point.Mark.{Mark}
use Rattle.ckr_entry.specs.declared.point.Passed.{Passed}
use Rattle.ckr_entry.specs.declared.point.Present.{Present}
use Rattle.ckr_jcl.specs.declared.deck.Kind.{Kind}
use Rattle.ckr_library.specs.Catalog.{ends_within}
use Rattle.ckr_library.specs.NameMaps.{Name, entry_at}
use Rattle.ckr_library.proofs.Named.{each-at, name-itself}
use Rattle.ckr_points.specs.Restart.{kept_at, syschk_name}
use Rattle.ckr_meaning.specs.EffectiveJob.{OwnedStep, step_at}
use Rattle.ckr_points.specs.Rows.{EntryPoint, KeptEntry, RunRow, TableSet, run_of, step_of_run}
use Rattle.ckr_points.specs.Soundness.{AreLaidOut}
use Rattle.ckr_points.specs.Statements.{kind_number}
use Rattle.ckr_rules.specs.declared.cases.Rule.TheVariants.{D3, D7}
use Rattle.ckr_steps.specs.EntryRecords.{bytes_on}
use Rattle.ckr_steps.specs.Units.{program_of}
use Rattle.ckr_volumes.specs.declared.layout.Layout.{Layout}
use Rattle.ckr_volumes.specs.Layouts.{StandsIn}
use Rattle.ckr_desk_refines.specs.DiskEntries.Continuation.{EntryThere, is_of_program, judged_read, judged_there}
use Rattle.ckr_desk_refines.specs.DiskEntries.Entries.{state_in}
use Rattle.ckr_desk_refines.specs.DiskEntries.KeptPoint.{is_as_kept, same_marks, same_passed, same_present}
use Rattle.ckr_desk_refines.specs.Memory.EventChanges.{is_point_of}
use Rattle.ckr_desk_refines.specs.Memory.View.{PointView}
use Rattle.ckr_desk_turn.specs.Checkpoints.{entry_with}
use Rattle.ckr_desk_refines.specs.Entries.{AreWithin, HasEntries, IsReadBack, IsWantedRead, jobs_of, program_at}
use Rattle.ckr_desk_refines.proofs.Entries.Images.{read-back}
use Rattle.ckr_desk_refines.proofs.Entries.NewEntry.{program-now}
use Rattle.ckr_desk_refines.proofs.Entries.Refusal.{kept-table}
use Rattle.ckr_points.specs.Office.{Office}
use Rattle.ckr_desk.proofs.Continuations.Entries.{there_in}
use Rattle.ckr_desk.proofs.Images.Entries.{ends-more}
use Rattle.ckr_desk.proofs.Openings.Points.{ok-entry}
use Rattle.ckr_desk.specs.Continuation.{entry_there, judged_point, point_by, program_in, there_under}
use Rattle.ckr_desk.specs.Points.{point_in}
use Rattle.ckr_desk.specs.declared.continuation.Continuation.{Continuation}

-- ---- what is compared is the same as itself

present-itself : (one : Present) → same_present one one ≡ true
present-itself one =
    and_from _ _
    (and_from _ _
    (and_from _ _ (and_from _ _ (and_from _ _ (equal-itself one.volume) (equal-itself one.lrecl)) (equal-itself one.space)) (equal-itself one.length))
    (mark-itself one.cataloged))
    (and_from _ _ (and_from _ _ (equal-itself one.stamp.run) (equal-itself one.stamp.step)) (equal-itself one.stamp.rewrites))

option-itself : (one : Option Present) → option_eq same_present one one ≡ true
option-itself None = refl
option-itself (Some one) = present-itself one

marks-itself : (marks : List Mark) → pointwise same_marks marks marks ≡ true
marks-itself [] = refl
marks-itself (mark ∷ rest) = and_from _ _ (and_from _ _ (name-itself mark.name) (option-itself mark.present)) (marks-itself rest)

passed-itself : (passed : List Passed) → pointwise same_passed passed passed ≡ true
passed-itself [] = refl
passed-itself (one ∷ rest) = and_from _ _ (and_from _ _ (name-itself one.name) (mark-itself one.made)) (passed-itself rest)

-- an entry with what is kept of it
kept-itself : (kept : KeptEntry) (state : _) → is_as_kept kept (entry_with kept.kept.id state kept.point) ≡ true
kept-itself kept state =
    let point : EntryPoint = kept.point in
    and_from _ _ (name-itself kept.kept.id)
    (and_from _ _
    (and_from _ _
    (and_from _ _ (name-itself point.job)
    (and_from _ _ (and_from _ _ (and_from _ _ (equal-itself point.run) (equal-itself point.owner)) (equal-itself point.step)) (name-itself point.step_name)))
    (and_from _ _ (and_from _ _ (equal-itself point.count) (equal-itself point.taken)) (equal-itself point.writes)))
    (and_from _ _ (marks-itself point.marks) (passed-itself point.passed)))

-- ---- the entry

-- the checkpoint at which a run goes on
abbrev pub at_checkpoint : (job before step : ℕ) (id : Name) → Continuation
at_checkpoint job before step id = record { job = job; earlier = suc before; step = step; id = id }

module _ (layout : Layout) (now : Office) (laid : AreLaidOut layout now.tables.sets) (within : AreWithin now.tables.sets) (image : List ℕ) (has : HasEntries layout now image)
    (job before step : ℕ) (id : Name) (row : RunRow) (row_at : run_of now.tables job ≡ Some row)
    (other : RunRow) (other_at : run_of now.tables (suc before) ≡ Some other) (number : other.number ≡ suc before) (owned : OwnedStep) (found : step_at other.job step ≡ Some owned)
    (entry : KeptEntry) (kept_is : kept_at now.tables.sets (syschk_name row.deck) id ≡ Some entry) (run_is : entry.point.run ≡ other.number) (step_is : entry.point.step ≡ step) where
  abbrev pub set : Name
  set = syschk_name row.deck

  pub table : (table : TableSet) × (entry_at now.tables.sets set ≡ Some table) × ((P : KeptEntry → Type 0) → AllByRecursion P table.entries → P entry)
  table = kept-table now.tables.sets set id entry kept_is

  pub back : IsReadBack layout now.legs (jobs_of now.tables) image table.0.set entry
  back = table.2 (IsReadBack layout now.legs (jobs_of now.tables) image table.0.set) (read-back layout now image has set table.0 table.1)

  -- as it is read
  abbrev pub read : Entry
  read = entry_with entry.kept.id back.state entry.point

  abbrev pub point : PointView
  point = point_in job read

  placed : ends_within table.0.set.space entry.kept ≡ true
  placed =
      let stands : StandsIn layout table.0.set = each-at (λ (table : TableSet). StandsIn layout table.set) now.tables.sets laid.stand set table.0 table.1 in
      ends-more table.0.set.length table.0.set.space entry.kept stands.length_fits (table.2 (λ (e : KeptEntry). IsTrue (ends_within table.0.set.length e.kept)) (within set table.0 table.1))

  there : entry_there now.tables (at_checkpoint job before step id) ≡ Some (there_in table.0.set entry)
  there =
      ap (option_and_then (λ (row : RunRow). there_under now.tables id (syschk_name row.deck))) row_at
      ∙ ap (option_and_then (λ (table : TableSet). option_map (there_in table.set) (kept_at now.tables.sets set id))) table.1
      ∙ ap (option_map (there_in table.0.set)) kept_is

  program : program_in now.tables (suc before) step ≡ Some (program_of back.state)
  program =
      ap (λ (o : Option RunRow). option_map (λ (owned : OwnedStep). owned.step.program) (option_and_then (λ (row : RunRow). step_of_run row step) o)) other_at
      ∙ ap (option_map (λ (owned : OwnedStep). owned.step.program)) found
      ∙ sym (program-now now.tables other owned step (ap (run_of now.tables) number ∙ other_at) found)
      ∙ ap (λ (run : ℕ). program_at (jobs_of now.tables) run step) (sym run_is)
      ∙ ap (program_at (jobs_of now.tables) entry.point.run) (sym step_is)
      ∙ back.program

  right : is_of_program (program_in now.tables (suc before) step) read ≡ true
  right = ap (λ (o : Option Kind). is_of_program o read) program ∙ equal-itself (kind_number (program_of back.state))

  judged-read : judged_read entry (program_in now.tables (suc before) step) (entry_in (bytes_on image layout table.0.set entry.kept.place entry.kept.bytes)) ≡ Ok (state_in read)
  judged-read =
      ap (judged_read entry (program_in now.tables (suc before) step)) back.read
      ∙ ap (λ (b : Bool). cond b (cond (is_of_program (program_in now.tables (suc before) step) read) (Ok (state_in read)) (Err D7)) (Err D3)) (kept-itself entry back.state)
      ∙ ap (λ (b : Bool). cond b (Ok (state_in read)) (Err D7)) right

  -- the point is found
  pub judged-so : judged_point layout now.tables image (at_checkpoint job before step id) ≡ Ok point
  judged-so =
      ap (λ (o : Option EntryThere). option_map_or (λ (there : EntryThere). point_by job (judged_there layout image (program_in now.tables (suc before) step) there)) o (Err D3)) there
      ∙ ap (point_by job)
      (ap (λ (b : Bool). cond b (judged_read entry (program_in now.tables (suc before) step) (entry_in (bytes_on image layout table.0.set entry.kept.place entry.kept.bytes))) (Err D3)) placed
      ∙ judged-read)

  -- it is the one that is wanted
  pub wanted-read : (points : List PointView) → find (is_point_of job) points ≡ Some point → IsWantedRead layout now.tables image points job id
  wanted-read points at its that wanted its_read its_at that_at wanted_at reads =
      let same_row : row ≡ its = some-one row its (run_of now.tables job) row_at its_at in
      let same_table : table.0 ≡ that = some-one table.0 that (entry_at now.tables.sets set) table.1 (ap (λ (r : RunRow). entry_at now.tables.sets (syschk_name r.deck)) same_row ∙ that_at) in
      let same_entry : entry ≡ wanted = some-one entry wanted (kept_at now.tables.sets set id) kept_is (ap (λ (r : RunRow). kept_at now.tables.sets (syschk_name r.deck) id) same_row ∙ wanted_at) in
      let same_read : read ≡ its_read =
      ok-entry read its_read
      (sym back.read
      ∙ ap (λ (t : TableSet). entry_in (bytes_on image layout t.set entry.kept.place entry.kept.bytes)) same_table
      ∙ ap (λ (e : KeptEntry). entry_in (bytes_on image layout that.set e.kept.place e.kept.bytes)) same_entry ∙ reads)
      in
      record { point = point; found = at; state = ap (λ (e : Entry). e.state) same_read; writes = ap (λ (e : Entry). e.writes) same_read }

-- ---- a plan

-- the point at which a run goes on, which is found, and is the one that is wanted
pub record HasItsPoint (layout : Layout) (now : Office) (image : List ℕ) (job before step : ℕ) (id : Name) : Type 0 where
  pub point : PointView
  pub judged : judged_point layout now.tables image (at_checkpoint job before step id) ≡ Ok point
  pub wanted : (points : List PointView) → find (is_point_of job) points ≡ Some point → IsWantedRead layout now.tables image points job id

module _ (layout : Layout) (now : Office) (laid : AreLaidOut layout now.tables.sets) (within : AreWithin now.tables.sets) (image : List ℕ) (has : HasEntries layout now image)
    (numbered : (number : ℕ) (row : RunRow) → run_of now.tables number ≡ Some row → row.number ≡ number)
    (job initiator before step : ℕ) (id : Name) (its : MayContinue layout now.tables job initiator (suc before) step (Some id)) where
  pub has-point : HasItsPoint layout now image job before step id
  has-point = by (kept_at now.tables.sets (syschk_name its.row.deck) id) refl its.entry
    where
      by : (entry : Option KeptEntry) → kept_at now.tables.sets (syschk_name its.row.deck) id ≡ entry → IsEntryOf its.other step (Some id) entry → HasItsPoint layout now image job before step id
      by None kept_is of_run = absurd of_run
      by (Some entry) kept_is of_run =
          let number = numbered (suc before) its.other its.other_at in
          record {
            point = point layout now laid within image has job before step id its.row its.row_at its.other its.other_at number its.owned its.found entry kept_is of_run.0 of_run.1;
            judged = judged-so layout now laid within image has job before step id its.row its.row_at its.other its.other_at number its.owned its.found entry kept_is of_run.0 of_run.1;
            wanted = wanted-read layout now laid within image has job before step id its.row its.row_at its.other its.other_at number its.owned its.found entry kept_is of_run.0 of_run.1;
          }
