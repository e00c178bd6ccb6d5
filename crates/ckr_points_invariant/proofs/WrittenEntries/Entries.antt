-- What entries keep, where their run's row goes on.
use Rattle.std.proofs.Common.{◌≡◌, ◌≤◌, ◌≢◌, ℕ, Bool, true, false, cond, List, [], ◌∷◌, filter, refl, ap, sym, ◌∙◌, subst, Some}
use Rattle.std.specs.List.{list_all, AllByRecursion}
use Rattle.std.proofs.lemmas.Bool.{and_from}
use Rattle.ckr_base.proofs.Bools.{and-first, and-second, bool-cases}
use Rattle.ckr_base.proofs.Options.{some-one}
use Rattle.ckr_base.proofs.Sequences.{each-filter}
use Rattle.ckr_jcl.specs.declared.deck.Job.{Job}
use Rattle.ckr_library.specs.Catalog.{ends_within}
use Rattle.ckr_library.specs.NameMaps.{Name}
use Rattle.ckr_meaning.specs.EffectiveJob.{Effective, is_among, step_at}
use Rattle.ckr_points_library.specs.Commit.{output_names}
use Rattle.ckr_points.specs.Marks.{point_at}
use Rattle.ckr_points.specs.Office.{Leg, Office, is_holder, leg_of}
use Rattle.ckr_points.specs.RuleCases.{was_selected}
use Rattle.ckr_points.specs.Rows.{KeptEntry, RunRow, StartPoint, run_of}
use Rattle.ckr_points.specs.Tables.{is_checkpoints, name_with_role}
use Rattle.ckr_points_invariant.specs.WrittenEntries.{HasEntered, HasWrittenEntries, IsBehindPoint, IsEntryOf, IsWrittenEntry, is_behind_mark}
use Rattle.ckr_points_invariant.proofs.StartedSteps.Offices.{IsOnlyRow}
use Rattle.ckr_points_invariant.proofs.WrittenEntries.Sets.{GoesOnThrough}

-- ---- lists

pub each-any : {X : Type 0} (P : X → Type 0) (xs : List X) → ((x : X) → P x) → AllByRecursion P xs
each-any P [] all = tt
each-any P (x ∷ xs) all = (all x, each-any P xs all)

pub all-each : {X : Type 0} (test : X → Bool) (xs : List X) → list_all test xs ≡ true → AllByRecursion (λ x. test x ≡ true) xs
all-each test [] each = tt
all-each test (x ∷ xs) each = (and-first (test x) _ each, all-each test xs (and-second (test x) _ each))

pub all-kept : {X : Type 0} (kept : X → Bool) (xs : List X) → list_all kept (filter kept xs) ≡ true
all-kept kept [] = refl
all-kept kept (first ∷ rest) =
    bool-cases (kept first)
    (λ stays. ap (λ b. list_all kept (cond b (first ∷ filter kept rest) (filter kept rest))) stays ∙ and_from (kept first) _ stays (all-kept kept rest))
    (λ goes. ap (λ b. list_all kept (cond b (first ∷ filter kept rest) (filter kept rest))) goes ∙ all-kept kept rest)

-- ---- data sets

-- the entries of a data set stay such through what events do to data sets
pub entries-through : (office : Office) → GoesOnThrough (HasWrittenEntries office)
entries-through office = record {
  cut = λ name table most its. record {
    ends = all-kept (λ entry. ends_within most entry.kept) table.entries;
    written = each-filter (IsWrittenEntry office name) (λ entry. ends_within most entry.kept) table.entries its.written;
  };
  marked = λ name table on its. record { ends = its.ends; written = its.written };
  stamped = λ name table stamp its. record { ends = its.ends; written = its.written };
  fresh = λ name table none. record {
    ends = ap (list_all (λ (entry : KeptEntry). ends_within table.set.length entry.kept)) none;
    written = subst (AllByRecursion (IsWrittenEntry office name)) (sym none) tt;
  };
}

-- ---- an entry of a run whose row goes on

-- a point that says the same, and tells the rewrites that one told
pub record HasPointAs (next : RunRow) (step : ℕ) (point : StartPoint) : Type 0 where
  pub later : StartPoint
  pub has : point_at next.points step ≡ Some later
  pub marks : later.marks ≡ point.marks
  pub passed : later.passed ≡ point.passed
  pub told : later.rewritten ≡ false → point.rewritten ≡ false

-- a step that the run has entered, as its later row has it
pub record KeepsStep (row next : RunRow) (step : ℕ) : Type 0 where
  pub point : (point : StartPoint) → point_at row.points step ≡ Some point → HasPointAs next step point
  pub entered : is_holder next.state ≡ true → HasEntered next step

-- the steps of which the run has a point
abbrev pub KeepsItsPoints : RunRow → RunRow → Type 0
KeepsItsPoints row next = (step : ℕ) (point : StartPoint) → point_at row.points step ≡ Some point → (later : StartPoint) × (point_at next.points step ≡ Some later)

-- a later row of the run has its deck and its job
pub record KeepsJob (row next : RunRow) : Type 0 where
  pub job : next.job ≡ row.job
  pub deck : next.deck ≡ row.deck
  pub own_from : next.earlier_step ≡ row.earlier_step
  pub selected : was_selected row ≡ true → was_selected next ≡ true

-- where the points are the same
pub same-points : (row next : RunRow) → next.points ≡ row.points → KeepsItsPoints row next
same-points row next same step point got = (point, ap (λ points. point_at points step) same ∙ got)

pub same-step : (row next : RunRow) (step : ℕ) → next.points ≡ row.points → (is_holder next.state ≡ true → HasEntered next step) → KeepsStep row next step
same-step row next step same entered = record {
  point = λ point got. record { later = point; has = ap (λ points. point_at points step) same ∙ got; marks = refl; passed = refl; told = λ e. e };
  entered = entered;
}

module _ (row next : RunRow) (leg : Leg) (set : Name) (entry : KeptEntry) (same_job : KeepsJob row next) (holds : is_holder row.state ≡ true) (points : KeepsItsPoints row next) (keeps : HasEntered row entry.point.step → KeepsStep row next entry.point.step) (its : IsEntryOf row leg set entry) where
  behind-next : (later : StartPoint) → point_at next.points entry.point.step ≡ Some later → IsBehindPoint next leg its.owned set entry later
  behind-next later there =
      let was : IsBehindPoint row leg its.owned set entry its.point = its.stands in
      let stays : KeepsStep row next entry.point.step = keeps (was.entered holds) in
      let got : HasPointAs next entry.point.step its.point = stays.point its.point its.has in
      subst (IsBehindPoint next leg its.owned set entry) (some-one got.later later (point_at next.points entry.point.step) got.has there)
      (record {
        behind = ap (λ marks. is_behind_mark marks set entry.kept) got.marks ∙ was.behind;
        unwritten = λ told. was.unwritten (got.told told);
        entered = stays.entered;
      })

  pub entry-next : IsEntryOf next leg set entry
  entry-next =
      let later = points entry.point.step its.point its.has in
      record {
        owned = its.owned;
        found = ap (λ (job : Effective). step_at job entry.point.step) same_job.job ∙ its.found;
        selected = same_job.selected its.selected;
        job_name = its.job_name ∙ ap (λ (deck : Job). deck.name) (sym same_job.deck);
        step_name = its.step_name;
        executed = subst (λ n. n ≤ entry.point.step) (sym same_job.own_from) its.executed;
        named = ap (λ (job : Effective). name_with_role job.root its.owned is_checkpoints) same_job.job ∙ its.named;
        output = ap (λ (job : Effective). is_among (output_names job.root its.owned) set) same_job.job ∙ its.output;
        back = its.back;
        taken = its.taken;
        done = its.done;
        point = later.0;
        has = later.1;
        room = its.room;
        stands = behind-next later.0 later.1;
      }

-- ---- an office in which one run's row changed

module _ (now later : Office) (job : ℕ) (only : IsOnlyRow now later job) where
  -- an entry of another run
  pub written-other : (set : Name) (entry : KeptEntry) → entry.point.run ≢ job → IsWrittenEntry now set entry → IsWrittenEntry later set entry
  written-other set entry apart its = record {
    run = its.run;
    row = its.row;
    row_at = only.others entry.point.run apart ∙ its.row_at;
    leg = its.leg;
    leg_at = only.legs entry.point.run apart ∙ its.leg_at;
    of_run = its.of_run;
  }

-- what a written entry's run has
pub written-by : (now : Office) (job : ℕ) (row : RunRow) (leg : Leg) (set : Name) (entry : KeptEntry) → run_of now.tables job ≡ Some row → leg_of now job ≡ Some leg → entry.point.run ≡ job → IsWrittenEntry now set entry → IsEntryOf row leg set entry
written-by now job row leg set entry row_at leg_at here its =
    subst (λ r. IsEntryOf r leg set entry) (some-one its.row row (run_of now.tables entry.point.run) its.row_at (ap (run_of now.tables) here ∙ row_at))
    (subst (λ l. IsEntryOf its.row l set entry) (some-one its.leg leg (leg_of now entry.point.run) its.leg_at (ap (leg_of now) here ∙ leg_at)) its.of_run)

-- an entry of the run whose row changed
pub written-next : (now later : Office) (job : ℕ) (row next : RunRow) (leg : Leg) (set : Name) (entry : KeptEntry) → run_of now.tables job ≡ Some row → leg_of now job ≡ Some leg → run_of later.tables job ≡ Some next → leg_of later job ≡ Some leg → KeepsJob row next → is_holder row.state ≡ true
    → KeepsItsPoints row next → (HasEntered row entry.point.step → KeepsStep row next entry.point.step) → entry.point.run ≡ job → IsWrittenEntry now set entry → IsWrittenEntry later set entry
written-next now later job row next leg set entry row_at leg_at row_then leg_then same_job holds points keeps here its = record {
  run = its.run;
  row = next;
  row_at = ap (run_of later.tables) here ∙ row_then;
  leg = leg;
  leg_at = ap (leg_of later) here ∙ leg_then;
  of_run = entry-next row next leg set entry same_job holds points keeps (written-by now job row leg set entry row_at leg_at here its);
}
