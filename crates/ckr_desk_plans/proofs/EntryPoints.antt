-- The entry that is made is that of the next checkpoint: its marks are those of the tables behind it.
use Rattle.std.proofs.Common.{◌≡◌, ◌≤◌, ◌<◌, ◌+◌, ◌-◌, ◌*◌, ◌++◌, ◌==◌, ℕ, zero, slice_get, Bool, true, false, cond, drop, not, ◌&&◌, ◌||◌, List, [], ◌∷◌, find, length, length-append, map, nat_le, option_and_then, nat_lt, arith, refl, ap, sym, ◌∙◌, Option, None, Some}
use Rattle.std.specs.List.{cons_option, filter_map, list_all, list_any}
use Rattle.std.specs.Prelude.{◌↔◌, ◌^◌, if◌then◌else◌, pred, suc, IfSome, IsSome, IsTrue}
use Rattle.std.proofs.lemmas.Bool.{and_from, false≢true}
use Rattle.std.proofs.lemmas.Bool.Decides.{nat_tests}
use Rattle.ckr_base.proofs.Numbers.{nat_le-beyond, nat_le-from}
use Rattle.ckr_base.proofs.Options.{some-not-none}
use Rattle.std.proofs.lemmas.Option.{same_Some}
use Rattle.ckr_base.specs.Grammar.{is_check_id}
use Rattle.ckr_entry.specs.declared.point.Passed.{Passed}
use Rattle.ckr_entry.specs.declared.point.State.{State}
use Rattle.ckr_entry.specs.Entry.{spelling}
use Rattle.ckr_entry.specs.Parts.{Entry}
use Rattle.ckr_jcl.specs.declared.deck.Dd.{Dd}
use Rattle.ckr_jcl.specs.declared.deck.Step.{Step}
use Rattle.ckr_steps.specs.Units.{taken_of}
use Rattle.std.specs.Option.{is_none, is_some, option_map, option_map_or}
use Rattle.ckr_base.proofs.Bools.{and-false, and-first, and-second}
use Rattle.ckr_entry.specs.declared.point.Mark.{Mark}
use Rattle.ckr_entry.specs.declared.point.Present.{Present}
use Rattle.ckr_library.specs.declared.sets.DataSet.{DataSet}
use Rattle.ckr_library.specs.Catalog.{Catalog, Holding, kept_in, kept_of, records_of, set_of}
use Rattle.ckr_library.specs.declared.sets.Kept.{Kept}
use Rattle.ckr_library.specs.NameMaps.{Name, Named, entry_at, same_name, with_changed, with_entry}
use Rattle.ckr_library.proofs.Named.{at-viewed, at-with_changed, name-itself, name-same}
use Rattle.ckr_meaning.specs.EffectiveJob.{Effective, OwnedStep, is_among, name_of, names_of, names_of_job, names_of_steps, step_at}
use Rattle.ckr_points.specs.Marks.{carried_marks, mark_at, mark_now, marked_under, marks_for, marks_now, own_names, present_of}
use Rattle.ckr_points.specs.Rows.{KeptEntry, RunRow, TableSet, TablesModel, cut_set, holding_of}
use Rattle.ckr_points.specs.Restart.{kept_at}
use Rattle.ckr_points.specs.Tables.{committed}
use Rattle.ckr_points_library.specs.Commit.{output_names}
use Rattle.ckr_points_library.specs.Holdings.{owned}
use Rattle.ckr_points_tables.specs.Checkpoint.{checkpoint_name}
use Rattle.ckr_points_tables.specs.RunJobs.{IsFitting, effective, is_fitting_step, names_in, own_of}
use Rattle.ckr_points_tables.specs.RunMarks.{mark_by}
use Rattle.ckr_points_tables.proofs.OwnNames.{names-behind}
use Rattle.ckr_points_tables.proofs.RunJobs.{step-fits}
use Rattle.ckr_points_tables.specs.View.{seen_by}
use Rattle.ckr_desk_plans.specs.declared.entry_marks.Behind.{Behind}
use Rattle.ckr_desk_plans.specs.Entries.{IsEntryOf, entry_bytes, entry_end, entry_in_set, entry_to, fits_in, next_entry, is_written, next_id, row_of_line, step_now}
use Rattle.ckr_desk_plans.specs.StepView.{RunningStepView}
use Rattle.ckr_desk_plans.specs.EntryMarks.{length_behind, mark_behind, now_behind, present_behind}
use Rattle.ckr_desk_turn.specs.Checkpoints.{is_in_range, is_state_in_range, step_entries, id_in}
use Rattle.ckr_desk_turn.specs.EntryStates.{at_checkpoint}
use Rattle.ckr_desk_plans.specs.Plans.{row_for}

-- ---- marks of the same names

marked_among : (first second : Name → Mark) (names : List Name) → ((name : Name) → is_among names name ≡ true → first name ≡ second name) → marked_under first names ≡ marked_under second names
marked_among first second [] same = refl
marked_among first second (name ∷ names) same =
    ap (λ mark. with_entry name mark (marked_under first names)) (same name (ap (λ b. b || is_among names name) (name-itself name)))
    ∙ ap (with_entry name (second name)) (marked_among first second names (λ other among. same other (later (same_name other name) (is_among names other) among)))
  where
    later : (here rest : Bool) → rest ≡ true → (here || rest) ≡ true
    later true rest among = refl
    later false rest among = among

marks_among : (first second : Name → Mark) (names : List Name) → ((name : Name) → is_among names name ≡ true → first name ≡ second name) → marks_for first names ≡ marks_for second names
marks_among first second names same = ap (λ (all : Named Mark). map (λ entry. entry.1) all) (marked_among first second names same)

-- ---- lengths that are committed

abbrev with_size : (Name → ℕ) → List Name → Name → TableSet → Present
with_size size names name table = record (present_of table) { length = if is_among names name then size name else table.set.length }

abbrev sized : ℕ → Bool → TableSet → Present
sized size b table = record (present_of table) { length = if b then size else table.set.length }

-- a name among the first ones, or the later ones
first_size : (size : Name → ℕ) (name other : Name) (among : Bool) (table : TableSet) → same_name name other ≡ true → cond among (size name) (size other) ≡ size name
first_size size name other true table same = refl
first_size size name other false table same = ap size (sym (name-same name other same))

committed-present : (size : Name → ℕ) (names : List Name) (sets : Named TableSet) (name : Name)
    → option_map present_of (entry_at (committed names (map size names) sets) name) ≡ option_map (with_size size names name) (entry_at sets name)
committed-present size [] sets name = by (entry_at sets name)
  where
    by : (found : Option TableSet) → option_map present_of found ≡ option_map (with_size size [] name) found
    by None = refl
    by (Some table) = refl
committed-present size (first ∷ names) sets name =
    committed-present size names (with_changed first (cut_set (size first)) sets) name
    ∙ ap (option_map (with_size size names name)) (at-with_changed first name (cut_set (size first)) sets)
    ∙ by (same_name name first) refl (entry_at sets name)
  where
    by : (same : Bool) → same_name name first ≡ same → (found : Option TableSet)
        → option_map (with_size size names name) (cond same (option_map (cut_set (size first)) found) found) ≡ option_map (sized (size name) (same || is_among names name)) found
    by true is None = refl
    by true is (Some table) = ap (λ (n : ℕ). Some (record (present_of table) { length = n })) (first_size size name first (is_among names name) table is)
    by false is found = refl

abbrev outputs : Behind → List Name
outputs behind = output_names behind.table.now.job.root (own_of behind.own.now)

abbrev sizes : Behind → Name → ℕ
sizes behind = length_behind (Some behind.check.now) behind.end behind.on.now.sets.sets

-- the mark of each name, by the data sets of the tables
pub mark-is : (behind : Behind) (sets : Named TableSet) → behind.committed.now.sets ≡ seen_by holding_of sets → (name : Name)
    → let names = output_names behind.table.now.job.root (own_of behind.own.now) in
    now_behind behind name ≡ mark_now (committed names (map (length_behind (Some behind.check.now) behind.end behind.on.now.sets.sets) names) sets) name
mark-is behind sets seen name =
    ap (λ (present : Option Present). let mark : Mark = record { name = name; present = present } in mark)
    (ap (option_map (present_behind behind name)) (ap (λ (all : Named Holding). option_map (λ (h : Holding). h.set) (entry_at all name)) seen ∙ ap (option_map (λ (h : Holding). h.set)) (at-viewed holding_of sets name))
    ∙ by (entry_at sets name)
    ∙ sym (committed-present (sizes behind) (outputs behind) sets name))
  where
    by : (found : Option TableSet) → option_map (present_behind behind name) (option_map (λ (h : Holding). h.set) (option_map holding_of found)) ≡ option_map (with_size (sizes behind) (outputs behind) name) found
    by None = refl
    by (Some table) = refl

-- so it is with those that are carried over beside them
pub marks-are : (behind : Behind) (sets : Named TableSet) → behind.committed.now.sets ≡ seen_by holding_of sets → (own : List Name) (carried : List Mark) (all : List Name)
    → let names = output_names behind.table.now.job.root (own_of behind.own.now) in
    marks_for (mark_by (now_behind behind) own carried) all
    ≡ marks_for (mark_by (mark_now (committed names (map (length_behind (Some behind.check.now) behind.end behind.on.now.sets.sets) names) sets)) own carried) all
marks-are behind sets seen own carried all =
    marks_among (mark_by (now_behind behind) own carried) (mark_by (mark_now _) own carried) all
    (λ name among. ap (λ now. if is_among own name then now else option_map_or (λ mark. mark) (mark_at carried name) now) (mark-is behind sets seen name))

-- ---- the identifier

-- what is read of a text is that text, where it is an identifier
pub read-so : (found : Option Name) (text : Name) → IsSome found ↔ IsTrue (is_check_id text) → IfSome found (λ read. read ≡ text) → found ≡ id_in text
read-so None text grammar value = by (is_check_id text) (λ yes. false≢true (grammar.1 yes))
  where
    by : (is : Bool) → (IsTrue is → ⊥) → None ≡ (if is then Some text else None)
    by true never = absurd (never refl)
    by false never = refl
read-so (Some read) text grammar value = ap Some value ∙ ap (λ (is : Bool). if is then Some text else None) (sym (grammar.0 refl))

pub id-is : (id text : Name) → Some id ≡ id_in text → id ≡ text
id-is id text is = by (is_check_id text) is
  where
    by : (is : Bool) → Some id ≡ (if is then Some text else None) → id ≡ text
    by true is = same_Some id text is
    by false is = absurd (some-not-none id is)

-- ---- the entry

-- the outputs of a step, by the run that owns it
its-outputs : (root : ℕ) (own : OwnedStep) (step : Step) (owner : ℕ) → own.step ≡ step → own.owner ≡ owner → output_names root own ≡ output_names root (owned step owner [])
its-outputs root own step owner same owns = ap (λ (s : Step). output_names root (owned s own.owner [])) same ∙ ap (λ n. output_names root (owned step n [])) owns

-- an entry by its parts
entry-parts : (id id' job job' step_name step_name' : Name) (run run' owner owner' step step' count count' taken taken' writes writes' : ℕ) (state state' : State) (marks marks' : List Mark) (passed passed' : List Passed)
    → id ≡ id' → job ≡ job' → step_name ≡ step_name' → run ≡ run' → owner ≡ owner' → step ≡ step' → count ≡ count' → taken ≡ taken' → writes ≡ writes' → state ≡ state' → marks ≡ marks' → passed ≡ passed'
    → let one : Entry = record { id = id; job = job; run = run; owner = owner; step = step; step_name = step_name; count = count; taken = taken; writes = writes; state = state; marks = marks; passed = passed } in
    let other : Entry = record { id = id'; job = job'; run = run'; owner = owner'; step = step'; step_name = step_name'; count = count'; taken = taken'; writes = writes'; state = state'; marks = marks'; passed = passed' } in
    one ≡ other
entry-parts id id' job job' step_name step_name' run run' owner owner' step step' count count' taken taken' writes writes' state state' marks marks' passed passed' a b c d e f g h i j k l = cc

-- the parts of an entry as it is made
pub record IsMadeOf (behind : Behind) (entry : Entry) : Type 0 where
  pub job : entry.job ≡ behind.table.now.job.deck.name
  pub run : entry.run ≡ behind.on.now.run
  pub owner : entry.owner ≡ behind.own.now.owner
  pub step : entry.step ≡ step_now (row_for behind.on.now.run behind.table.now)
  pub step_name : entry.step_name ≡ behind.own.now.step.now.name
  pub count : entry.count ≡ suc behind.table.now.count
  pub taken : entry.taken ≡ taken_of behind.on.now.step.state
  pub writes : entry.writes ≡ behind.on.now.step.writes
  pub state :
      entry.state
      ≡ at_checkpoint (suc (step_entries (row_for behind.on.now.run behind.table.now) (step_now (row_for behind.on.now.run behind.table.now)))) behind.on.now.step.state
  pub marks : entry.marks ≡ marks_for (mark_behind behind) (names_of_job (effective behind.on.now.run behind.table.now.job))
  pub passed : entry.passed ≡ behind.table.now.passed.items

pub made-entry : (id : Name) (behind : Behind) (tables : TablesModel) (entry : Entry) → behind.committed.now.sets ≡ seen_by holding_of tables.sets → entry.id ≡ id → IsMadeOf behind entry → IsEntryOf id behind tables entry
unfolding entry_to
made-entry id behind tables entry seen its made = λ line own for_it.
    let row : RunRow = row_of_line behind.on.now.run line behind.table.now in
    let all : Name → ℕ = sizes behind in
    let names : List Name = output_names row.job.root own in
    let outputs_so = its-outputs row.job.root own behind.own.now.step.now behind.own.now.owner for_it.step for_it.owner in
    entry-parts entry.id (next_id row own) entry.job behind.table.now.job.deck.name entry.step_name own.step.name entry.run row.number entry.owner own.owner entry.step (step_now row) entry.count (suc row.count) entry.taken (taken_of behind.on.now.step.state) entry.writes
    behind.on.now.step.writes entry.state _ entry.marks (marks_now row (committed names (map all names) tables.sets)) entry.passed row.passed (its ∙ for_it.id) made.job (made.step_name ∙ ap (λ (s : Step). s.name) (sym for_it.step)) made.run (made.owner ∙ sym for_it.owner) made.step
    made.count made.taken made.writes made.state
    (made.marks
    ∙ marks-are behind tables.sets seen (own_names row) (carried_marks row) (names_of_job row.job)
    ∙ ap (λ (ns : List Name). marks_for (mark_by (mark_now (committed ns (map all ns) tables.sets)) (own_names row) (carried_marks row)) (names_of_job row.job)) (sym outputs_so))
    made.passed

-- ---- whether it fits

-- an identifier among the entries of a data set
kept_any : (id : Name) (entries : List KeptEntry) → list_any (λ (kept : Kept). same_name kept.id id) (map (λ (entry : KeptEntry). entry.kept) entries) ≡ is_some (find (λ (entry : KeptEntry). same_name entry.kept.id id) entries)
kept_any id [] = refl
kept_any id (entry ∷ entries) = by (same_name entry.kept.id id) (kept_any id entries)
  where
    by : (same : Bool) → list_any (λ (kept : Kept). same_name kept.id id) (map (λ (one : KeptEntry). one.kept) entries) ≡ is_some (find (λ (one : KeptEntry). same_name one.kept.id id) entries)
        → (same || list_any (λ (kept : Kept). same_name kept.id id) (map (λ (one : KeptEntry). one.kept) entries)) ≡ is_some (cond same (Some entry) (find (λ (one : KeptEntry). same_name one.kept.id id) entries))
    by true rest = refl
    by false rest = rest

abbrev found_in : Name → Option TableSet → Option KeptEntry
found_in id found = option_map_or (λ (table : TableSet). find (λ entry. same_name entry.kept.id id) table.entries) found None

-- whether a data set of the tables keeps it
pub kept-there : (sets : Named TableSet) (name id : Name) (table : TableSet) (catalog : Catalog) → catalog.sets ≡ seen_by holding_of sets → entry_at sets name ≡ Some table
    → list_any (λ (kept : Kept). same_name kept.id id) (kept_of catalog name) ≡ is_some (kept_at sets name id)
kept-there sets name id table catalog seen there =
    ap (λ (all : Named Holding). list_any (λ (kept : Kept). same_name kept.id id) (kept_in (entry_at all name))) seen
    ∙ ap (λ (found : Option Holding). list_any (λ (kept : Kept). same_name kept.id id) (kept_in found)) (at-viewed holding_of sets name ∙ ap (option_map holding_of) there)
    ∙ kept_any id table.entries
    ∙ ap (λ (found : Option TableSet). is_some (found_in id found)) (sym there)

none_not_some : {A : Type 0} (found : Option A) (some : Bool) → is_some found ≡ some → is_none found ≡ not some
none_not_some None some is = ap not is
none_not_some (Some x) some is = ap not is

-- one of the tests fails
second_false : (a b c d : Bool) → b ≡ false → (a && b && c && d) ≡ false
second_false a b c d e = ap (λ x. x && c && d) (ap (λ y. a && y) e ∙ and-false a)

third_false : (a b c d : Bool) → c ≡ false → (a && b && c && d) ≡ false
third_false a b c d e = ap (λ x. x && d) (ap (λ y. a && b && y) e ∙ and-false (a && b))

fourth_false : (a b c d : Bool) → d ≡ false → (a && b && c && d) ≡ false
fourth_false a b c d e = ap (λ x. a && b && c && x) e ∙ and-false (a && b && c)

all_true : (a b c d : Bool) → a ≡ true → b ≡ true → c ≡ true → d ≡ true → (a && b && c && d) ≡ true
all_true a b c d one two three four = ap (λ x. x && b && c && d) one ∙ ap (λ x. x && c && d) two ∙ ap (λ x. x && d) three ∙ four

module _ (check : Name) (table : TableSet) (tables : TablesModel) (row : RunRow) (own : OwnedStep) (on : RunningStepView) where
  abbrev its_end : ℕ
  its_end = entry_end check table tables row own on

  abbrev its_entry : Entry
  its_entry = entry_to (Some check) its_end tables row own on

  its_counts : (most : ℕ) → ((entry_to (Some check) most tables row own on).count ≡ suc row.count) × ((entry_to (Some check) most tables row own on).passed ≡ row.passed)
  unfolding entry_to
  its_counts most = (refl, refl)

  its_id : (most : ℕ) → (entry_to (Some check) most tables row own on).id ≡ next_id row own
  unfolding entry_to
  its_id most = refl

  absent : (nat_le its_end table.set.space && is_none (kept_at tables.sets check (next_id row own)) && is_in_range its_entry && is_written its_entry) ≡ false → None ≡ entry_in_set tables row own on check table
  unfolding fits_in entry_in_set
  absent e = ap (λ b. if b then Some its_entry else None) (sym (ap (λ b. table.set.lrecl == 256 && b) e ∙ and-false (table.set.lrecl == 256)))

  -- its records have another length
  pub absent-records : (table.set.lrecl == 256) ≡ false → None ≡ entry_in_set tables row own on check table
  unfolding fits_in entry_in_set
  absent-records other =
      ap (λ b. if b && (nat_le its_end table.set.space && is_none (kept_at tables.sets check (next_id row own)) && is_in_range its_entry && is_written its_entry) then Some its_entry else None) (sym other)

  -- the run has written too many entries, or has passed too much on
  pub absent-count : 9999999 ≤ row.count → None ≡ entry_in_set tables row own on check table
  absent-count many =
      absent (third_false (nat_le its_end table.set.space) (is_none (kept_at tables.sets check (next_id row own))) (is_in_range its_entry) (is_written its_entry)
      (ap (λ n. nat_le n 9999999 && nat_le its_entry.writes 3000000 && is_state_in_range its_entry.state) (its_counts its_end).0
      ∙ ap (λ b. b && nat_le its_entry.writes 3000000 && is_state_in_range its_entry.state) (nat_le-beyond (suc row.count) 9999999 (omega arith))))

  pub absent-passed : 65536 ≤ length row.passed → None ≡ entry_in_set tables row own on check table
  absent-passed many =
      absent (fourth_false (nat_le its_end table.set.space) (is_none (kept_at tables.sets check (next_id row own))) (is_in_range its_entry) (is_written its_entry)
      (ap (λ (all : List Passed). is_check_id its_entry.id && nat_lt (length all) (2 ^ 16)) (its_counts its_end).1
      ∙ ap (λ b. is_check_id its_entry.id && b) (not_below (length row.passed) many)
      ∙ and-false (is_check_id its_entry.id)))
    where
      not_below : (n : ℕ) → 65536 ≤ n → nat_lt n (2 ^ 16) ≡ false
      not_below n many = grind (arith, nat_tests)

  -- its identifier is there
  pub absent-kept : is_some (kept_at tables.sets check (next_id row own)) ≡ true → None ≡ entry_in_set tables row own on check table
  absent-kept there =
      absent (second_false (nat_le its_end table.set.space) (is_none (kept_at tables.sets check (next_id row own))) (is_in_range its_entry) (is_written its_entry)
      (none_not_some (kept_at tables.sets check (next_id row own)) true there))

  -- its text isn't in the grammar of identifiers
  pub absent-id : id_in (next_id row own) ≡ None → None ≡ entry_in_set tables row own on check table
  absent-id none =
      absent (fourth_false (nat_le its_end table.set.space) (is_none (kept_at tables.sets check (next_id row own))) (is_in_range its_entry) (is_written its_entry)
      (ap (λ (n : Name). is_check_id n && nat_lt (length its_entry.passed) (2 ^ 16)) (its_id its_end) ∙ ap (λ b. b && nat_lt (length its_entry.passed) (2 ^ 16)) (by (is_check_id (next_id row own)) none)))
    where
      by : (is : Bool) → (if is then Some (next_id row own) else None) ≡ None → is ≡ false
      by true none = absurd (some-not-none (next_id row own) none)
      by false none = refl

  -- there is no space
  pub absent-space : table.set.space < its_end → None ≡ entry_in_set tables row own on check table
  absent-space beyond =
      absent (ap (λ b. b && is_none (kept_at tables.sets check (next_id row own)) && is_in_range its_entry && is_written its_entry) (nat_le-beyond its_end table.set.space beyond))

  -- a number is out of its range
  pub absent-range : (entry : Entry) → entry ≡ its_entry → is_in_range entry ≡ false → None ≡ entry_in_set tables row own on check table
  absent-range entry is out =
      absent (third_false (nat_le its_end table.set.space) (is_none (kept_at tables.sets check (next_id row own))) (is_in_range its_entry) (is_written its_entry)
      (ap is_in_range (sym is) ∙ out))

  -- it fits
  pub fits-there : (entry : Entry) → entry ≡ its_entry → (table.set.lrecl == 256) ≡ true → its_end ≤ table.set.space → is_some (kept_at tables.sets check (next_id row own)) ≡ false → is_in_range entry ≡ true → is_check_id (next_id row own) ≡ true
      → length row.passed < 65536 → Some entry ≡ entry_in_set tables row own on check table
  unfolding fits_in entry_in_set
  fits-there entry is wide within none ranged grammar few =
      ap Some is
      ∙ ap (λ b. if b then Some its_entry else None)
      (sym (and_from (table.set.lrecl == 256) _ wide (all_true (nat_le its_end table.set.space) (is_none (kept_at tables.sets check (next_id row own))) (is_in_range its_entry) (is_written its_entry) (nat_le-from its_end table.set.space within)
      (none_not_some (kept_at tables.sets check (next_id row own)) false none) (ap is_in_range (sym is) ∙ ranged)
      (ap (λ (n : Name). is_check_id n && nat_lt (length its_entry.passed) (2 ^ 16)) (its_id its_end)
      ∙ ap (λ b. b && nat_lt (length its_entry.passed) (2 ^ 16)) grammar
      ∙ ap (λ (all : List Passed). nat_lt (length all) (2 ^ 16)) (its_counts its_end).1
      ∙ below (length row.passed) few))))
    where
      below : (n : ℕ) → n < 65536 → nat_lt n (2 ^ 16) ≡ true
      below n few = grind (arith, nat_tests)

  -- its bytes
  pub bytes-are : (entry : Entry) → entry ≡ entry_to (Some check) 0 tables row own on → length (spelling entry) ≡ entry_bytes check tables row own on
  unfolding entry_bytes
  bytes-are entry is = ap (λ (e : Entry). length (spelling e)) is

  -- where it ends, by its bytes as they are with no end given
  pub end-is : (set : DataSet) (entry : Entry) (bytes : List ℕ) (from records : ℕ) → set ≡ table.set → entry ≡ entry_to (Some check) 0 tables row own on → bytes ≡ spelling entry → from ≡ set.length → records ≡ records_of (length bytes) → from + records ≡ its_end
  end-is set entry bytes from records same is spelled first rest =
      ap (λ n. n + records) (first ∙ ap (λ (s : DataSet). s.length) same) ∙ ap (λ n. table.set.length + n) (rest ∙ ap records_of (ap length spelled ∙ bytes-are entry is))

-- ---- the next one of a run

-- the data set for checkpoints of a step, by the run that owns it
pub its-check : (root : ℕ) (own : OwnedStep) (step : Step) (owner : ℕ) → own.step ≡ step → own.owner ≡ owner → checkpoint_name root own ≡ checkpoint_name root (owned step owner [])
its-check root own step owner same owns = ap (λ (s : Step). checkpoint_name root (owned s own.owner [])) same ∙ ap (λ n. checkpoint_name root (owned step n [])) owns

module _ (tables : TablesModel) (row : RunRow) (own : OwnedStep) (on : RunningStepView) where
  abbrev next_in : Option Name → Option Entry
  next_in found = option_and_then (λ check. option_and_then (entry_in_set tables row own on check) (entry_at tables.sets check)) found

  pub next-none : checkpoint_name row.job.root own ≡ None → None ≡ next_entry tables row own on
  next-none none = ap next_in (sym none)

  pub next-unset : (check : Name) → checkpoint_name row.job.root own ≡ Some check → entry_at tables.sets check ≡ None → None ≡ next_entry tables row own on
  next-unset check some none = ap (option_and_then (entry_in_set tables row own on check)) (sym none) ∙ ap next_in (sym some)

  pub next-set : (check : Name) (table : TableSet) (found : Option Entry) → checkpoint_name row.job.root own ≡ Some check → entry_at tables.sets check ≡ Some table → found ≡ entry_in_set tables row own on check table → found ≡ next_entry tables row own on
  next-set check table found some there is = is ∙ ap (option_and_then (entry_in_set tables row own on check)) (sym there) ∙ ap next_in (sym some)

-- a data set of the tables, as their library has it
pub set-there : (sets : Named TableSet) (catalog : Catalog) (name : Name) (set : DataSet) → catalog.sets ≡ seen_by holding_of sets → Some set ≡ set_of catalog name → (table : TableSet) × (entry_at sets name ≡ Some table) × (set ≡ table.set)
set-there sets catalog name set seen is = by (entry_at sets name) refl (is ∙ ap (λ (all : Named Holding). option_map (λ (h : Holding). h.set) (entry_at all name)) seen ∙ ap (option_map (λ (h : Holding). h.set)) (at-viewed holding_of sets name))
  where
    by : (found : Option TableSet) → entry_at sets name ≡ found → Some set ≡ option_map (λ (h : Holding). h.set) (option_map holding_of found) → (table : TableSet) × (entry_at sets name ≡ Some table) × (set ≡ table.set)
    by None at is = absurd (some-not-none set is)
    by (Some table) at is = (table, at, same_Some set table.set is)

pub set-none : (sets : Named TableSet) (catalog : Catalog) (name : Name) → catalog.sets ≡ seen_by holding_of sets → None ≡ set_of catalog name → entry_at sets name ≡ None
set-none sets catalog name seen is = by (entry_at sets name) refl (is ∙ ap (λ (all : Named Holding). option_map (λ (h : Holding). h.set) (entry_at all name)) seen ∙ ap (option_map (λ (h : Holding). h.set)) (at-viewed holding_of sets name))
  where
    by : (found : Option TableSet) → entry_at sets name ≡ found → None ≡ option_map (λ (h : Holding). h.set) (option_map holding_of found) → entry_at sets name ≡ None
    by None at is = at
    by (Some table) at is = absurd (some-not-none table.set (sym is))

-- ---- how many names

names_most : (root : ℕ) (own : OwnedStep) (dds : List Dd) → length (filter_map (name_of root own) dds) ≤ length dds
names_most root own [] = omega arith
names_most root own (dd ∷ dds) = by (name_of root own dd) (names_most root own dds)
  where
    by : (found : Option Name) → length (filter_map (name_of root own) dds) ≤ length dds → length (cons_option found (filter_map (name_of root own) dds)) ≤ suc (length dds)
    by None most = omega (arith, most)
    by (Some name) most = omega (arith, most)

steps_most : (root : ℕ) (steps : List OwnedStep) → list_all is_fitting_step steps ≡ true → length (names_of_steps root steps) ≤ 16 * length steps
steps_most root [] fit = omega arith
steps_most root (own ∷ steps) fit =
    let its = step-fits own (and-first (is_fitting_step own) (list_all is_fitting_step steps) fit) in
    omega (arith, its.dds, names_most root own own.step.dds, steps_most root steps (and-second (is_fitting_step own) (list_all is_fitting_step steps) fit), length-append (names_of root own) (names_of_steps root steps))

pub names-few : (job : Effective) → IsFitting job → length (names_of_job job) ≤ 1024
names-few job fits = omega (arith, steps_most job.root job.steps fits.steps, fits.few)

-- the names of the steps from one on are its own and those behind it
pub names-before : (job : Effective) (number : ℕ) → 0 < number → names_of_steps job.root (drop (number - 1) job.steps) ≡ names_in job.root (step_at job number) ++ names_of_steps job.root (drop number job.steps)
names-before job zero some = absurd (omega (arith, some))
names-before job (suc place) some = ap (λ n. names_of_steps job.root (drop n job.steps)) (omega arith) ∙ from job.steps place
  where
    from : (steps : List OwnedStep) (place : ℕ) → names_of_steps job.root (drop place steps) ≡ names_in job.root (slice_get steps place) ++ names_of_steps job.root (drop (suc place) steps)
    from [] zero = refl
    from [] (suc place) = refl
    from (own ∷ steps) zero = refl
    from (own ∷ steps) (suc place) = from steps place

-- the names of a step that a run executes itself are among those of the steps from there on
pub names-own : (job : Effective) (from step : ℕ) (own : OwnedStep) (name : Name) → suc (pred from) ≤ step → step_at job step ≡ Some own → is_among (names_of job.root own) name ≡ true → is_among (names_of_steps job.root (drop (pred from) job.steps)) name ≡ true
names-own job from zero own name executed there among = absurd (some-not-none own (sym there))
names-own job from (suc place) own name executed there among = names-behind job.root job.steps (pred from) place own name (omega (arith, executed)) there among
