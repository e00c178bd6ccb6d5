-- One more event keeps the stamps.
use Rattle.std.proofs.Common.{◌≡◌, ◌≤◌, ℕ, Bool, true, false, cond, ◌&&◌, List, length, refl, ap, sym, ◌∙◌, subst, Some, None, arith, [], suc}
use Rattle.std.specs.Prelude.{nat_le}
use Rattle.std.specs.List.{AllByRecursion}
use Rattle.std.specs.Option.{option_map_or, is_some}
use Rattle.std.proofs.lemmas.Bool.{false≢true}
use Rattle.std.proofs.lemmas.Option.{same_Some}
use Rattle.arrayvec.specs.ArrayVec.{ArrayVec}
use Rattle.ckr_base.specs.declared.code.Code.{Code}
use Rattle.ckr_base.proofs.Bools.{and-first, and-second}
use Rattle.ckr_base.proofs.Numbers.{nat_le-true}
use Rattle.ckr_base.proofs.Options.{option-cases}
use Rattle.ckr_base.proofs.Sequences.{each-append}
use Rattle.ckr_entry.specs.declared.point.Mark.{Mark}
use Rattle.ckr_events.specs.declared.event.Ending.{Ending}
use Rattle.ckr_events.specs.declared.event.Ending.TheVariants.{Allocation, Coded, Completed}
use Rattle.ckr_jcl.specs.declared.deck.Job.{Job}
use Rattle.ckr_library.specs.NameMaps.{Name, entry_at, taken_over}
use Rattle.ckr_meaning.specs.LibrarySet.{Library, LibrarySet}
use Rattle.ckr_meaning.specs.Dispositions.{Stock}
use Rattle.ckr_meaning.specs.EffectiveJob.{OwnedStep, flaws_in, is_among, step_at}
use Rattle.ckr_meaning.specs.declared.place.Place.{Place}
use Rattle.ckr_meaning.specs.declared.place.Place.TheVariants.{Before, Opened, Within}
use Rattle.ckr_meaning.specs.JobRun.{at, job_run, walk_before}
use Rattle.ckr_meaning.specs.StepRun.{StepStart, disposed_at, placed_at, within_at, work_at}
use Rattle.ckr_volumes.specs.declared.layout.Layout.{Layout}
use Rattle.ckr_points.specs.declared.run.RunState.TheVariants.{Held as HeldRun}
use Rattle.ckr_points.specs.Tables.{after_commit, after_held, after_rewritten, after_step_ended, after_submitted, is_updates, name_with_role, row_rewritten}
use Rattle.ckr_points.specs.Follows.{is_within}
use Rattle.ckr_points.specs.Payload.{carries_lengths, rewrites_nothing, writes_in}
use Rattle.ckr_points_invariant.specs.Invariant.{AreBegun, IsKept, AreStamped, IsAtPlace, HasBegun, IsHolder, IsMarkedShort, IsReached, MarksHold, step_now}
use Rattle.ckr_points_invariant.specs.RunningSteps.{its_start, start_of}
use Rattle.ckr_points.specs.Office.{Leg, Office, cut_of, leg_of}
use Rattle.ckr_points.specs.Restart.{after_ended, by_step, place_of, step_in}
use Rattle.ckr_points.specs.Rows.{RunRow, TablesModel, run_of, with_run}
use Rattle.ckr_points.specs.Soundness.{marks_of_row}
use Rattle.ckr_points_invariant.proofs.Stamps.Beginnings.{begun-as, disposed-from, ended-from}
use Rattle.ckr_points_invariant.proofs.Steps.Commits.{found_leg, under_way}
use Rattle.ckr_points_invariant.proofs.Library.Entries.{at-taken_over}
use Rattle.ckr_points_invariant.proofs.Marks.Changes.{Entries, Points, fewer, holds-run, holds-sets, points-rewritten, row-holds}
use Rattle.ckr_points_invariant.proofs.Points.Rows as rows
use Rattle.ckr_points_invariant.proofs.Points.Sets as sets
use Rattle.ckr_points_invariant.proofs.Stamps.Tables.{reached-now, stamped-on}
use Rattle.ckr_points_invariant.proofs.Steps.Walks.{at-before, at-within, cut-before, cut-opened, cut-within, run-behind, run-cut, start_at-of}
use Rattle.ckr_points_invariant.proofs.EventRows.{IsCommitting, IsRefused, IsThrough, submitted}

-- ---- the marks of the tables

pub commit-holds : (P : Mark → Type 0) (tables : TablesModel) → MarksHold P tables → (row : RunRow) (owned : OwnedStep) (step writes : ℕ) (lengths : List ℕ) → AllByRecursion P (marks_of_row row) → MarksHold P (after_commit row owned step writes lengths tables)
commit-holds P tables holds row owned step writes lengths mine = rows.commit-holds (Points P) (Entries P) tt (fewer P) tables row owned step writes lengths holds mine

-- a run's row changes, or what its step does to the tables
pub by-row : (P : Mark → Type 0) (tables : TablesModel) (job : ℕ) (change : RunRow → TablesModel) → MarksHold P tables → ((row : RunRow) → AllByRecursion P (marks_of_row row) → MarksHold P (change row)) → MarksHold P (option_map_or change (run_of tables job) tables)
by-row P tables job change holds each = rows.by-row (Points P) (Entries P) tt (fewer P) tables job change holds each

by-step : (P : Mark → Type 0) (tables : TablesModel) (job : ℕ) (change : RunRow → OwnedStep → ℕ → TablesModel) → MarksHold P tables → ((row : RunRow) (owned : OwnedStep) → AllByRecursion P (marks_of_row row) → MarksHold P (change row owned (step_now row))) → MarksHold P (option_map_or (λ row. by_step (λ owned step. change row owned step) row tables) (run_of tables job) tables)
by-step P tables job change holds each = rows.by-step (Points P) (Entries P) tt (fewer P) tables job change holds each

-- ---- events that change no library and no leg

abbrev pub same_library : (office : Office) (tables : TablesModel) → AreStamped office → MarksHold (IsMarkedShort office) tables → AreStamped (record office { tables = tables })
same_library office tables stamps marks = stamped-on office tables office.library stamps stamps.begun marks

pub stamped-comes : (office : Office) (deck : Job) → AreStamped office → AreStamped (submitted office deck)
stamped-comes office deck stamps =
    same_library office (after_submitted (suc (length office.tables.runs)) deck office.tables) stamps
    (record {
      rows = each-append (λ (row : RunRow). AllByRecursion (IsMarkedShort office) (marks_of_row row)) office.tables.runs _ stamps.marks.rows (tt, tt);
      entries = stamps.marks.entries;
    })

-- a row of the same marks
pub stamped-row : (office : Office) (job : ℕ) (row next : RunRow) → AreStamped office → run_of office.tables job ≡ Some row → (AllByRecursion (IsMarkedShort office) (marks_of_row row) → AllByRecursion (IsMarkedShort office) (marks_of_row next)) → AreStamped (record office { tables = with_run next office.tables })
stamped-row office job row next stamps e keeps =
    same_library office (with_run next office.tables) stamps
    (holds-run (IsMarkedShort office) next office.tables (keeps (row-holds (IsMarkedShort office) office.tables job row stamps.marks e)) stamps.marks)

pub stamped-held : (office : Office) (job writes : ℕ) (code : Code) (lengths : List ℕ) (row : RunRow) (owned : OwnedStep) → AreStamped office → run_of office.tables job ≡ Some row → AreStamped (record office { tables = after_held row owned (step_now row) code writes lengths office.tables })
stamped-held office job writes code lengths row owned stamps e =
    same_library office (after_held row owned (step_now row) code writes lengths office.tables) stamps
    (commit-holds (IsMarkedShort office) office.tables stamps.marks (record row { state = HeldRun; initiator = None; code = Some code }) owned (step_now row) writes lengths (row-holds (IsMarkedShort office) office.tables job row stamps.marks e))

pub stamped-rewritten : (office : Office) (job writes : ℕ) (lengths : List ℕ) (row : RunRow) (owned : OwnedStep) → AreStamped office → run_of office.tables job ≡ Some row → AreStamped (record office { tables = after_rewritten row owned (step_now row) writes lengths office.tables })
stamped-rewritten office job writes lengths row owned stamps e =
    let done : TablesModel = after_commit (row_rewritten (step_now row) row) owned (step_now row) writes lengths office.tables in
    let committed_marks : MarksHold (IsMarkedShort office) done = commit-holds (IsMarkedShort office) office.tables stamps.marks (row_rewritten (step_now row) row) owned (step_now row) writes lengths (points-rewritten (IsMarkedShort office) (step_now row) row.points (row-holds (IsMarkedShort office) office.tables job row stamps.marks e)) in
    same_library office (after_rewritten row owned (step_now row) writes lengths office.tables) stamps
    (holds-sets (IsMarkedShort office) done _ (sets.rewritten-holds (Entries (IsMarkedShort office)) tt (fewer (IsMarkedShort office)) (name_with_role row.job.root owned is_updates) owned.owner (step_now row) done.sets committed_marks.entries) committed_marks)

pub stamped-step_done : (office : Office) (job rc writes : ℕ) (lengths : List ℕ) (row : RunRow) (owned : OwnedStep) → AreStamped office → run_of office.tables job ≡ Some row → AreStamped (record office { tables = after_step_ended row owned (step_now row) rc writes lengths office.tables })
stamped-step_done office job rc writes lengths row owned stamps e =
    same_library office (after_step_ended row owned (step_now row) rc writes lengths office.tables) stamps
    (rows.step_ended-holds (Points (IsMarkedShort office)) (Entries (IsMarkedShort office)) tt (fewer (IsMarkedShort office)) office.tables row owned (step_now row) rc writes lengths stamps.marks (row-holds (IsMarkedShort office) office.tables job row stamps.marks e))

-- ---- a run ends

-- what a job leaves that is cut at a place to which it comes
cut-begun : (office : Office) (number : ℕ) (leg : Leg) (place : Place) → AreStamped office → leg_of office number ≡ Some leg → IsReached leg place → (is_within place ≡ true → is_some (step_at leg.job (step_in place)) ≡ true) → AreBegun office (job_run leg.job leg.start (Some place))
cut-begun office number leg (Before step) stamps led reached there name set e =
    stamps.places number leg (Before step) led reached name set
    (ap (λ (standing : Stock LibrarySet). entry_at standing.sets name) (at-before leg.job leg.start step)
    ∙ ended-from (walk_before leg.job leg.start step).standing.passed (walk_before leg.job leg.start step).standing.sets name set
    (ap (λ library. entry_at library name) (sym (run-cut leg.job leg.start (Before step) ∙ cut-before leg.job leg.start step)) ∙ e))
cut-begun office number leg (Opened step) stamps led reached there name set e =
    stamps.places number leg (Opened step) led reached name set
    (ended-from (at leg.job leg.start (Opened step)).passed (at leg.job leg.start (Opened step)).sets name set
    (ap (λ library. entry_at library name) (sym (run-cut leg.job leg.start (Opened step) ∙ cut-opened leg.job leg.start step)) ∙ e))
cut-begun office number leg (Within step writes) stamps led reached there name set e =
    option-cases (step_at leg.job step)
    (λ none. absurd (false≢true (sym (ap is_some none) ∙ there refl)))
    (λ owned found.
    let start : StepStart = start_of leg.job leg.start step owned in
    let old =
    disposed-from start true (within_at start writes) name set
    (ended-from (disposed_at start true (within_at start writes)).passed (disposed_at start true (within_at start writes)).sets name set
    (ap (λ library. entry_at library name) (sym (run-cut leg.job leg.start (Within step writes) ∙ cut-within leg.job leg.start step writes owned found)) ∙ e))
    in
    begun-as office name old.0 set old.2
    (stamps.places number leg (Within step writes) led reached name old.0 (ap (λ library. entry_at library name) (at-within leg.job leg.start step writes owned found) ∙ old.1)))

taken-begun : (office : Office) (reach : List Name) (left : Library) → AreBegun office office.library → AreBegun office left → AreBegun office (taken_over reach left office.library)
taken-begun office reach left begun other name set e =
    by (is_among reach name) (sym (at-taken_over reach left office.library name) ∙ e)
  where
    by : (among : Bool) → cond among (entry_at left name) (entry_at office.library name) ≡ Some set → HasBegun office name set
    by true its = other name set its
    by false its = begun name set its

ended-stamps : (layout : Layout) (office : Office) (job : ℕ) (row : RunRow) (leg : Leg) (ending : Ending) → IsKept layout office → IsHolder office job row leg → AreBegun office (job_run leg.job leg.start (cut_of row ending)) → AreStamped (record office { tables = after_ended row ending office.tables; library = taken_over leg.reach (job_run leg.job leg.start (cut_of row ending)) office.library })
ended-stamps layout office job row leg ending kept holder left =
    stamped-on office (after_ended row ending office.tables) (taken_over leg.reach (job_run leg.job leg.start (cut_of row ending)) office.library) kept.stamps
    (taken-begun office leg.reach (job_run leg.job leg.start (cut_of row ending)) kept.stamps.begun left)
    (rows.ended-holds (Points (IsMarkedShort office)) (Entries (IsMarkedShort office)) tt (fewer (IsMarkedShort office)) row ending office.tables kept.stamps.marks (row-holds (IsMarkedShort office) office.tables job row kept.stamps.marks holder.row_at))

pub stamped-through : (layout : Layout) (office : Office) (job : ℕ) (row : RunRow) (leg : Leg) → IsKept layout office → IsThrough office job row leg → AreStamped (record office { tables = after_ended row Completed office.tables; library = taken_over leg.reach (job_run leg.job leg.start None) office.library })
stamped-through layout office job row leg kept its =
    let place : IsAtPlace office.tables row leg = kept.events.places job row leg its.holder in
    let none : step_at leg.job (step_now row) ≡ None = ap (λ job. step_at job (step_now row)) place.job ∙ its.none in
    ended-stamps layout office job row leg Completed kept its.holder
    (λ name set one.
    kept.stamps.places job leg (Before (step_now row)) its.holder.leg_at
    (record { begun = place.begun; goes_on = place.goes_on; flawless = λ start behind e. absurd (false≢true (sym behind)); some = λ start e. omega arith }) name set
    (ap (λ (standing : Stock LibrarySet). entry_at standing.sets name) (at-before leg.job leg.start (step_now row))
    ∙ ended-from (walk_before leg.job leg.start (step_now row)).standing.passed (walk_before leg.job leg.start (step_now row)).standing.sets name set
    (ap (λ library. entry_at library name) (sym (run-behind leg.job leg.start (step_now row) place.begun none place.goes_on)) ∙ one)))

pub stamped-allocation : (layout : Layout) (office : Office) (job dd cause first second : ℕ) (row : RunRow) (leg : Leg) (owned : OwnedStep) → IsKept layout office → IsRefused office job row leg owned → AreStamped (record office { tables = after_ended row (Allocation dd cause first second) office.tables; library = taken_over leg.reach (job_run leg.job leg.start (Some (place_of row))) office.library })
stamped-allocation layout office job dd cause first second row leg owned kept its =
    let place : IsAtPlace office.tables row leg = kept.events.places job row leg its.holder in
    ended-stamps layout office job row leg (Allocation dd cause first second) kept its.holder
    (cut-begun office job leg (place_of row) kept.stamps its.holder.leg_at (reached-now office.tables row leg place)
    (λ within. ap (λ job. is_some (step_at job (step_now row))) place.job ∙ ap is_some its.found))

pub stamped-coded : (layout : Layout) (office : Office) (job rule writes : ℕ) (code : Code) (lengths : ArrayVec ℕ) (row : RunRow) (leg : Leg) (owned : OwnedStep) → IsKept layout office → IsCommitting office job row leg owned writes lengths.items → AreStamped (record office { tables = after_ended row (Coded code rule writes lengths) office.tables; library = taken_over leg.reach (job_run leg.job leg.start (cut_of row (Coded code rule writes lengths))) office.library })
stamped-coded layout office job rule writes code lengths row leg owned kept its =
    let running = its.at.running in
    let place : IsAtPlace office.tables row leg = kept.events.places job row leg running.holder in
    let start : StepStart = its_start leg owned (step_now row) in
    let has : carries_lengths office.tables.sets writes lengths.items start ≡ true = and-second (nat_le (writes_in (place_of row)) writes && rewrites_nothing start (writes_in (place_of row)) writes) (carries_lengths office.tables.sets writes lengths.items start) its.commit in
    let leg_step : step_at leg.job (step_now row) ≡ Some owned = found_leg layout office job row leg owned (step_now row) (writes_in (place_of row)) kept.events running in
    ended-stamps layout office job row leg (Coded code rule writes lengths) kept running.holder
    (cut-begun office job leg (Within (step_now row) writes) kept.stamps running.holder.leg_at
    (record {
      begun = place.begun;
      goes_on = place.goes_on;
      flawless = λ its behind at_step. subst (λ s. flaws_in (placed_at s) ≡ []) (same_Some start its (sym (start_at-of leg.job leg.start (step_now row) owned leg_step) ∙ at_step)) (under_way layout office job row leg owned (step_now row) (writes_in (place_of row)) kept.events running).flawless;
      some = λ its at_step. subst (λ s. writes ≤ length (work_at s).writes) (same_Some start its (sym (start_at-of leg.job leg.start (step_now row) owned leg_step) ∙ at_step)) (nat_le-true writes (length (work_at start).writes) (and-first (nat_le writes (length (work_at start).writes)) _ has));
    })
    (λ within. ap is_some leg_step))
