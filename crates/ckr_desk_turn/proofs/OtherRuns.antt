-- The other runs of a desk are as they were where the row of one run changes.
use Rattle.std.proofs.Common.{◌≡◌, ◌≢◌, ℕ, zero, suc, Bool, true, false, cond, not, ◌&&◌, ◌||◌, List, [], ◌∷◌, filter, find, slice_get, refl, ap, sym, ◌∙◌, subst, Option, Some, None}
use Rattle.std.specs.Prelude.{◌==◌}
use Rattle.std.specs.List.{AllByRecursion, list_all, list_any}
use Rattle.std.specs.Option.{is_none, is_some, option_map_or}
use Rattle.std.proofs.lemmas.Bool.{and_from, false≢true, or_left, or_right}
use Rattle.std.proofs.lemmas.Option.{same_Some}
use Rattle.ckr_base.proofs.Bools.{and-first, and-second, bool-cases, if-then}
use Rattle.ckr_base.proofs.Numbers.{equal-false, equal-true, number-cases}
use Rattle.ckr_base.proofs.Options.{some-not-none}
use Rattle.ckr_base.proofs.Sequences.{all-get, each-by_place, each-get}
use Rattle.ckr_library.specs.NameMaps.{Name, entry_at, taken_over, with_moved}
use Rattle.ckr_library.proofs.Named.{each-at, each-with_entry, each-without_entry}
use Rattle.ckr_meaning.specs.LibrarySet.{AreWithinSpace, IsWithinSpace, Library, LibrarySet}
use Rattle.ckr_meaning.specs.JobRun.{start_at}
use Rattle.ckr_points.specs.declared.run.RunState.{RunState}
use Rattle.ckr_points.specs.declared.run.RunState.TheVariants.{On}
use Rattle.ckr_points.specs.Follows.{is_running, is_within, own_step, state_number}
use Rattle.ckr_points.specs.Office.{Leg, Office}
use Rattle.ckr_points.specs.Restart.{place_of, step_in}
use Rattle.ckr_points.specs.Rows.{RunRow, run_of}
use Rattle.ckr_desk_turn.specs.declared.failed_run.FailedRun.{FailedRun}
use Rattle.ckr_desk_turn.specs.Desk.{DeskModel, DeskStep, without_mark, without_run}
use Rattle.ckr_desk_turn.specs.Invariant.{IsAdmitted, IsDesk, IsFailed, IsGoing, has_code_while_off, has_its_step, is_accounted, is_in_its_state, is_off, is_on_one}
use Rattle.ckr_points.specs.Payload.{start_in_office}

-- ---- lists

pub all-by : {X : Type 0} (test : X → Bool) (xs : List X) → ((place : ℕ) (x : X) → slice_get xs place ≡ Some x → test x ≡ true) → list_all test xs ≡ true
all-by test [] each = refl
all-by test (first ∷ xs) each = and_from (test first) (list_all test xs) (each 0 first refl) (all-by test xs (λ place x at. each (suc place) x at))

-- what holds of each holds of one that passes a test
pub some-holds : {X A : Type 0} (P : X → Type 0) (test : X → Bool) (xs : List X) → AllByRecursion P xs → list_any test xs ≡ true → ((x : X) → P x → test x ≡ true → A) → A
some-holds P test [] each some use_it = absurd (false≢true some)
some-holds P test (x ∷ xs) each some use_it =
    bool-cases (test x)
    (λ does. use_it x each.0 does)
    (λ isnt. some-holds P test xs each.1 (sym (ap (λ b. b || list_any test xs) isnt) ∙ some) use_it)

-- a run of the desk is on an initiator, or has a code, only where its state says so
pub row-in-state : (desk : DeskModel) → IsDesk desk → (run : ℕ) (row : RunRow) → run_of desk.office.tables run ≡ Some row → is_in_its_state row ≡ true
row-in-state desk is zero row at = absurd (some-not-none row (sym at))
row-in-state desk is (suc place) row at = all-get is_in_its_state desk.office.tables.runs place row is.states at

-- the deck of a run of the desk was accepted
pub row-admitted : (desk : DeskModel) → IsDesk desk → (run : ℕ) (row : RunRow) → run_of desk.office.tables run ≡ Some row → IsAdmitted row
row-admitted desk is zero row at = absurd (some-not-none row (sym at))
row-admitted desk is (suc place) row at = each-get IsAdmitted desk.office.tables.runs place row is.admitted at

-- it has a code while it is off its initiator
pub state-code : (row : RunRow) → is_in_its_state row ≡ true → has_code_while_off row ≡ true
state-code row state = and-second (is_none row.initiator || is_on_one row.state) (has_code_while_off row) state

-- and it has no initiator but where its state says so
pub state-lodged : (row : RunRow) → is_in_its_state row ≡ true → (is_none row.initiator || is_on_one row.state) ≡ true
state-lodged row state = and-first (is_none row.initiator || is_on_one row.state) (has_code_while_off row) state

-- the step that it is within
pub row-stepped : (desk : DeskModel) → IsDesk desk → (run : ℕ) (row : RunRow) → run_of desk.office.tables run ≡ Some row → has_its_step row ≡ true
row-stepped desk is zero row at = absurd (some-not-none row (sym at))
row-stepped desk is (suc place) row at = all-get has_its_step desk.office.tables.runs place row is.stepped at

pub step-there : (row : RunRow) → has_its_step row ≡ true → is_running row ≡ true → is_some (own_step row) ≡ true
step-there row stepped runs = if-then (is_running row || is_off row.state) (is_some (own_step row)) stepped (or_left (is_running row) (is_off row.state) runs)

-- a run between two steps is within none
pub between-steps : (row : RunRow) → row.state ≡ On → is_within (place_of row) ≡ false → has_its_step row ≡ true
between-steps row on out =
    or_left (not (is_running row || is_off row.state)) (is_some (own_step row))
    (ap (λ (state : RunState). not ((state_number state == 2) && is_within (place_of row) || is_off state)) on ∙ ap (λ b. not (true && b || false)) out)

-- one within the same step has it too
pub same-step : (row next : RunRow) → has_its_step row ≡ true → is_running row ≡ true → own_step next ≡ own_step row → has_its_step next ≡ true
same-step row next stepped runs same = or_right (not (is_running next || is_off next.state)) (is_some (own_step next)) (ap is_some same ∙ step-there row stepped runs)

any-kept : {X : Type 0} (test keep : X → Bool) → ((x : X) → test x ≡ true → keep x ≡ true) → (xs : List X) → list_any test xs ≡ list_any test (filter keep xs)
any-kept test keep sure [] = refl
any-kept test keep sure (x ∷ xs) =
    bool-cases (keep x)
    (λ kept. ap (λ b. test x || b) (any-kept test keep sure xs) ∙ sym (ap (λ b. list_any test (cond b (x ∷ filter keep xs) (filter keep xs))) kept))
    (λ gone.
    bool-cases (test x)
    (λ does. absurd (false≢true (sym gone ∙ sure x does)))
    (λ isnt. ap (λ b. b || list_any test xs) isnt ∙ any-kept test keep sure xs ∙ sym (ap (λ b. list_any test (cond b (x ∷ filter keep xs) (filter keep xs))) gone)))

differs : (one other : ℕ) → one ≢ other → not (one == other) ≡ true
differs one other apart =
    bool-cases (one == other)
    (λ same. absurd (apart (equal-true one other same)))
    (λ isnt. ap not isnt)

-- ---- libraries

pub taken_over-within : (names : List Name) (from to : Library) → AreWithinSpace from → AreWithinSpace to → AreWithinSpace (taken_over names from to)
taken_over-within [] from to one other = other
taken_over-within (name ∷ names) from to one other =
    by (entry_at from name) refl (taken_over-within names from to one other)
  where
    by : (entry : Option LibrarySet) → entry_at from name ≡ entry → AreWithinSpace (taken_over names from to) → AreWithinSpace (with_moved name (taken_over names from to) entry)
    by None e rest = each-without_entry IsWithinSpace name (taken_over names from to) rest
    by (Some set) e rest = each-with_entry IsWithinSpace name set (taken_over names from to) (each-at IsWithinSpace from one name set e) rest

-- ---- one row changes

pub record Changes (office after : Office) (job : ℕ) (next : RunRow) : Type 0 where
  pub mine : run_of after.tables job ≡ Some next
  pub others : (other : ℕ) → other ≢ job → run_of after.tables other ≡ run_of office.tables other
  pub legs : after.legs ≡ office.legs

-- a running step goes on where the row of its run and its start are as they were, and so does a mark
pub going-still : (office after : Office) (on : DeskStep) (going : IsGoing office on) → run_of after.tables on.run ≡ run_of office.tables on.run → start_in_office after going.row ≡ start_in_office office going.row → IsGoing after on
going-still office after on going same_row same_start = record {
  row = going.row;
  row_at = same_row ∙ going.row_at;
  on = going.on;
  number = going.number;
  committed = going.committed;
  place = going.place;
  start = going.start;
  start_at = same_start ∙ going.start_at;
  fit = going.fit;
  behind = going.behind;
  plain = going.plain;
  come = going.come;
}

pub failed-still : (office after : Office) (one : FailedRun) (failed : IsFailed office one) → run_of after.tables one.run ≡ run_of office.tables one.run → start_in_office after failed.row ≡ start_in_office office failed.row → IsFailed after one
failed-still office after one failed same_row same_start = record {
  row = failed.row;
  number = failed.number;
  committed = failed.committed;
  start = failed.start;
  within = record {
    row_at = same_row ∙ failed.within.row_at;
    on = failed.within.on;
    place = failed.within.place;
    start_at = same_start ∙ failed.within.start_at;
  };
}

module _ (office after : Office) (job : ℕ) (next : RunRow) (changes : Changes office after job next) where
  start-there : (row : RunRow) → start_in_office after row ≡ start_in_office office row
  start-there row = ap (λ (legs : List Leg). option_map_or (λ leg. start_at leg.job leg.start (step_in (place_of row))) (find (λ leg. leg.number == row.number) legs) None) changes.legs

  going-there : (on : DeskStep) → on.run ≢ job → IsGoing office on → IsGoing after on
  going-there on apart going = going-still office after on going (changes.others on.run apart) (start-there going.row)

  -- the steps of the other runs go on
  pub going-rest : (running : List DeskStep) → AllByRecursion (IsGoing office) running → AllByRecursion (IsGoing after) (without_run job running)
  going-rest [] going = tt
  going-rest (first ∷ rest) going =
      bool-cases (first.run == job)
      (λ same. subst (λ b. AllByRecursion (IsGoing after) (cond (not b) (first ∷ without_run job rest) (without_run job rest))) (sym same) (going-rest rest going.1))
      (λ isnt. subst (λ b. AllByRecursion (IsGoing after) (cond (not b) (first ∷ without_run job rest) (without_run job rest))) (sym isnt) (going-there first (equal-false first.run job isnt) going.0, going-rest rest going.1))

  pub failed-there : (one : FailedRun) → one.run ≢ job → IsFailed office one → IsFailed after one
  failed-there one apart failed = failed-still office after one failed (changes.others one.run apart) (start-there failed.row)

  -- the other runs that were running when the system failed are still marked
  pub failed-rest : (failed : List FailedRun) → AllByRecursion (IsFailed office) failed → AllByRecursion (IsFailed after) (without_mark job failed)
  failed-rest [] each = tt
  failed-rest (first ∷ rest) each =
      let others : List FailedRun = without_mark job rest in
      bool-cases (first.run == job)
      (λ same. subst (λ b. AllByRecursion (IsFailed after) (cond (not b) (first ∷ others) others)) (sym same) (failed-rest rest each.1))
      (λ isnt. subst (λ b. AllByRecursion (IsFailed after) (cond (not b) (first ∷ others) others)) (sym isnt) (failed-there first (equal-false first.run job isnt) each.0, failed-rest rest each.1))

  pub failed-all : (failed : List FailedRun) → list_any (λ (one : FailedRun). one.run == job) failed ≡ false → AllByRecursion (IsFailed office) failed → AllByRecursion (IsFailed after) failed
  failed-all [] out each = tt
  failed-all (first ∷ rest) out each =
      bool-cases (first.run == job)
      (λ same. absurd (false≢true (sym out ∙ ap (λ b. b || list_any (λ (one : FailedRun). one.run == job) rest) same)))
      (λ isnt. (failed-there first (equal-false first.run job isnt) each.0, failed-all rest (sym (ap (λ b. b || list_any (λ (one : FailedRun). one.run == job) rest) isnt) ∙ out) each.1))

module _ (desk later : DeskModel) (is : IsDesk desk) (job : ℕ) (next : RunRow) (changes : Changes desk.office later.office job next) where
  -- what holds of each row but one holds of each
  pub each_row : (old test : RunRow → Bool) → test next ≡ true → list_all old desk.office.tables.runs ≡ true → ((row : RunRow) → row.number ≢ job → old row ≡ true → test row ≡ true) → list_all test later.office.tables.runs ≡ true
  each_row old test mine each goes =
      all-by test later.office.tables.runs
      (λ place row at.
      number-cases (suc place) job
      (λ same. ap test (sym (same_Some next row (sym changes.mine ∙ ap (run_of later.office.tables) (sym same) ∙ at))) ∙ mine)
      (λ apart.
      let was : run_of desk.office.tables (suc place) ≡ Some row = sym (changes.others (suc place) apart) ∙ at in
      goes row (λ e. apart (sym (is.kept.events.numbered (suc place) row was) ∙ e)) (all-get old desk.office.tables.runs place row each was)))

  pub states-then : is_in_its_state next ≡ true → list_all is_in_its_state later.office.tables.runs ≡ true
  states-then state = each_row is_in_its_state is_in_its_state state is.states (λ row apart was. was)

  pub stepped-then : has_its_step next ≡ true → list_all has_its_step later.office.tables.runs ≡ true
  stepped-then stepped = each_row has_its_step has_its_step stepped is.stepped (λ row apart was. was)

  pub admitted-then : IsAdmitted next → AllByRecursion IsAdmitted later.office.tables.runs
  admitted-then admitted =
      each-by_place IsAdmitted later.office.tables.runs
      (λ place row at.
      number-cases (suc place) job
      (λ same. subst IsAdmitted (same_Some next row (sym changes.mine ∙ ap (run_of later.office.tables) (sym same) ∙ at)) admitted)
      (λ apart. row-admitted desk is (suc place) row (sym (changes.others (suc place) apart) ∙ at)))

  -- a run is accounted for by the steps and the marks of the other runs
  pub accounted-then : is_running next ≡ false → ((number : ℕ) → number ≢ job → list_any (λ (step : DeskStep). step.run == number) desk.running ≡ list_any (λ (step : DeskStep). step.run == number) later.running) → ((number : ℕ) → number ≢ job → list_any (λ (one : FailedRun). one.run == number) desk.failed ≡ list_any (λ (one : FailedRun). one.run == number) later.failed) → list_all (is_accounted later) later.office.tables.runs ≡ true
  accounted-then rests running failed =
      each_row (is_accounted desk) (is_accounted later)
      (ap (λ b. not b || (list_any (λ (step : DeskStep). step.run == next.number) later.running || list_any (λ (one : FailedRun). one.run == next.number) later.failed)) rests)
      is.accounted
      (λ row apart was.
      ap (λ b. not (is_running row) || (b || list_any (λ (one : FailedRun). one.run == row.number) later.failed)) (sym (running row.number apart))
      ∙ ap (λ b. not (is_running row) || (list_any (λ (step : DeskStep). step.run == row.number) desk.running || b)) (sym (failed row.number apart)) ∙ was)

pub running-same : (job : ℕ) (running : List DeskStep) (number : ℕ) → number ≢ job → list_any (λ (step : DeskStep). step.run == number) running ≡ list_any (λ (step : DeskStep). step.run == number) (without_run job running)
running-same job running number apart =
    any-kept (λ (step : DeskStep). step.run == number) (λ (step : DeskStep). not (step.run == job)) (λ step same. differs step.run job (λ e. apart (sym (equal-true step.run number same) ∙ e))) running

pub failed-same : (job : ℕ) (failed : List FailedRun) (number : ℕ) → number ≢ job → list_any (λ (one : FailedRun). one.run == number) failed ≡ list_any (λ (one : FailedRun). one.run == number) (without_mark job failed)
failed-same job failed number apart =
    any-kept (λ (one : FailedRun). one.run == number) (λ (one : FailedRun). not (one.run == job)) (λ one same. differs one.run job (λ e. apart (sym (equal-true one.run number same) ∙ e))) failed
