-- Entries stay as they were written where an event changes the row of one run, and data sets that it reaches.
use Rattle.std.proofs.Common.{◌≡◌, ◌≢◌, ℕ, true, refl, ap, sym, ◌∙◌, subst, Option, Some, None}
use Rattle.std.specs.List.{AllByRecursion, find}
use Rattle.std.specs.Option.{option_map_or}
use Rattle.ckr_base.proofs.Numbers.{number-cases}
use Rattle.ckr_base.proofs.Options.{some-one}
use Rattle.ckr_base.proofs.Sequences.{each-both}
use Rattle.ckr_library.specs.NameMaps.{Name, Named, entry_at, same_name}
use Rattle.ckr_meaning.specs.EffectiveJob.{OwnedStep, is_among}
use Rattle.ckr_meaning.specs.LibrarySet.{Library}
use Rattle.ckr_volumes.specs.declared.layout.Layout.{Layout}
use Rattle.ckr_points_library.specs.Commit.{output_names}
use Rattle.ckr_points.specs.Follows.{is_within, own_step}
use Rattle.ckr_points.specs.Marks.{point_at}
use Rattle.ckr_points.specs.Office.{Leg, Office, is_holder}
use Rattle.ckr_points.specs.Restart.{kept_at, place_of}
use Rattle.ckr_points.specs.Rows.{KeptEntry, RunRow, StartPoint, TableSet, TablesModel, run_of, with_run}
use Rattle.ckr_points_invariant.specs.Invariant.{IsAgreed, IsHolder, step_now}
use Rattle.ckr_points_invariant.specs.Points.{ArePointed}
use Rattle.ckr_points_invariant.specs.Readiness.{AreReady, IsCheck}
use Rattle.ckr_points_invariant.specs.WrittenEntries.{AreWrittenEntries, HasEntered, HasGrown, HasWrittenEntries, IsWrittenEntry, check_set}
use Rattle.ckr_points_invariant.proofs.OtherRuns.Sets.{LeavesApart}
use Rattle.ckr_points_invariant.proofs.Readiness.Office.{output-apart}
use Rattle.ckr_points_invariant.proofs.StartedSteps.Offices.{IsOnlyRow}
use Rattle.ckr_points_invariant.proofs.StartedSteps.Rows.{only-row, row-here}
use Rattle.ckr_points_invariant.proofs.WrittenEntries.Entries.{KeepsItsPoints, KeepsJob, KeepsStep, each-any, written-next, written-other}
use Rattle.ckr_points_invariant.proofs.WrittenEntries.Sets.{EachHas}

-- the entry of an identifier, by the data set
pub kept-same : (sets later : Named TableSet) (set id : Name) → entry_at later set ≡ entry_at sets set → kept_at later set id ≡ kept_at sets set id
kept-same sets later set id same = ap (λ (o : Option TableSet). option_map_or (λ table. find (λ (entry : KeptEntry). same_name entry.kept.id id) table.entries) o None) same

-- what entries of the run whose row changed have then
abbrev pub OwnEntries : Office → Office → ℕ → Type 0
OwnEntries now later job =
    (set : Name) (table : TableSet) → entry_at later.tables.sets set ≡ Some table → AllByRecursion (λ (entry : KeptEntry). entry.point.run ≡ job → IsWrittenEntry now set entry → IsWrittenEntry later set entry) table.entries

-- a run within its step, by its data set for checkpoints
abbrev pub IsGrown : Named TableSet → RunRow → Type 0
IsGrown sets row =
    is_within (place_of row) ≡ true → (owned : OwnedStep) (point : StartPoint) → own_step row ≡ Some owned → point_at row.points (step_now row) ≡ Some point → HasGrown sets row owned point.marks

module _ (layout : Layout) (now : Office) (kept : IsAgreed layout now) (pointed : ArePointed now) (ready : AreReady now) (written : AreWrittenEntries now) where
  -- ---- other runs

  module _ (later : Office) (job : ℕ) (only : IsOnlyRow now later job) (left : LeavesApart now job later.tables.sets) where
    grown-there : (number : ℕ) (row : RunRow) (leg : Leg) (owned : OwnedStep) (point : StartPoint) → number ≢ job → IsHolder now number row leg → is_within (place_of row) ≡ true → own_step row ≡ Some owned → point_at row.points (step_now row) ≡ Some point → HasGrown later.tables.sets row owned point.marks
    grown-there number row leg owned point apart holder within found got =
        let was : HasGrown now.tables.sets row owned point.marks = written.grown number row leg owned point holder within found got in
        record {
          since = λ present table among marked there. was.since present table among marked (sym (same (check_set row owned) among) ∙ there);
          effect = λ effect entry in_effect there.
              let check : IsCheck now.tables.sets row leg effect = (ready.runs number row leg holder).check effect within in_effect in
              was.effect effect entry in_effect
              (sym (kept-same now.tables.sets later.tables.sets effect.set effect.kept.id
              (same effect.set (ap (λ (step : OwnedStep). is_among (output_names row.job.root step) effect.set) (some-one owned check.owned (own_step row) found check.found_step) ∙ check.among)))
              ∙ there);
        }
      where
        same : (name : Name) → is_among (output_names row.job.root owned) name ≡ true → entry_at later.tables.sets name ≡ entry_at now.tables.sets name
        same name among = left name (output-apart layout now kept pointed ready number row leg owned name holder found among job apart)

    pub written-only : EachHas (HasWrittenEntries now) later.tables.sets → OwnEntries now later job → ((row : RunRow) (leg : Leg) → IsHolder later job row leg → IsGrown later.tables.sets row) → AreWrittenEntries later
    written-only each own grown = record {
      sets = λ set table there.
          let its : HasWrittenEntries now set table = each set table there in
          record {
            ends = its.ends;
            written =
                each-both (IsWrittenEntry now set) (λ (entry : KeptEntry). entry.point.run ≡ job → IsWrittenEntry now set entry → IsWrittenEntry later set entry) (IsWrittenEntry later set) table.entries
                (λ entry was mine. number-cases entry.point.run job (λ here. mine here was) (λ apart. written-other now later job only set entry apart was))
                its.written (own set table there);
          };
      grown = λ number row leg owned point holder.
          number-cases number job
          (λ here within found got. grown row leg (subst (λ n. IsHolder later n row leg) here holder) within owned point found got)
          (λ apart.
          grown-there number row leg owned point apart (record { row_at = sym (only.others number apart) ∙ holder.row_at; holds = holder.holds; leg_at = sym (only.legs number apart) ∙ holder.leg_at }));
    }

  -- ---- the row of a holder

  module _ (job : ℕ) (row mid next : RunRow) (leg : Leg) (base : TablesModel) (sets : Named TableSet) (library : Library) (holder : IsHolder now job row leg) (was : run_of base job ≡ Some mid) (same : next.number ≡ row.number)
      (others : (number : ℕ) → number ≢ job → run_of base number ≡ run_of now.tables number) where
    abbrev later : Office
    later = record now { tables = with_run next (record base { sets = sets }); library = library }

    here : run_of later.tables job ≡ Some next
    here = row-here layout now kept job row mid next leg base sets library holder was same others

    only : IsOnlyRow now later job
    only = only-row layout now kept job row mid next leg base sets library holder was same others

    pub written-with : LeavesApart now job sets → EachHas (HasWrittenEntries now) sets → OwnEntries now later job → (is_holder next.state ≡ true → IsGrown sets next) → AreWrittenEntries later
    written-with left each own grown =
        written-only later job only left each own
        (λ one fellow its. subst (λ (r : RunRow). is_holder r.state ≡ true → IsGrown sets r) (some-one next one (run_of later.tables job) here its.row_at) grown its.holds)

    -- an entry of the run, of a step that its later row keeps
    pub own-entry : (set : Name) (entry : KeptEntry) → KeepsJob row next → KeepsItsPoints row next → (HasEntered row entry.point.step → KeepsStep row next entry.point.step) → entry.point.run ≡ job → IsWrittenEntry now set entry → IsWrittenEntry later set entry
    own-entry set entry same_job points keeps mine its =
        written-next now later job row next leg set entry holder.row_at holder.leg_at here holder.leg_at same_job holder.holds points keeps mine its

    pub written-on : LeavesApart now job sets → EachHas (HasWrittenEntries now) sets → KeepsJob row next → KeepsItsPoints row next → ((step : ℕ) → HasEntered row step → KeepsStep row next step) → (is_holder next.state ≡ true → IsGrown sets next) → AreWrittenEntries later
    written-on left each same_job points keeps grown =
        written-with left each
        (λ set table there. each-any (λ (entry : KeptEntry). entry.point.run ≡ job → IsWrittenEntry now set entry → IsWrittenEntry later set entry) table.entries (λ entry. own-entry set entry same_job points (keeps entry.point.step)))
        grown

  -- the tables as they are, with its row and data sets
  pub written-moved : (job : ℕ) (row next : RunRow) (leg : Leg) (sets : Named TableSet) (library : Library) → IsHolder now job row leg → next.number ≡ row.number → KeepsJob row next → LeavesApart now job sets → EachHas (HasWrittenEntries now) sets → KeepsItsPoints row next → ((step : ℕ) → HasEntered row step → KeepsStep row next step) → (is_holder next.state ≡ true → IsGrown sets next) → AreWrittenEntries (record now { tables = with_run next (record now.tables { sets = sets }); library = library })
  written-moved job row next leg sets library holder same same_job left each points keeps grown =
      written-on job row row next leg now.tables sets library holder holder.row_at same (λ number apart. refl) left each same_job points keeps grown
