-- The next checkpoint of a running step: its entry fits, and its event follows on any disk and commits what the step has.
use Rattle.std.proofs.Common.{◌≡◌, ◌≤◌, ◌+◌, ◌==◌, ◌&&◌, ◌||◌, ℕ, Bool, true, false, cond, List, [], ◌∷◌, find, length, map, refl, ap, sym, ◌∙◌, subst, Option, Some, None, arith}
use Rattle.std.specs.Prelude.{IsSome, if◌then◌else◌, nat_le, option_and_then}
use Rattle.std.specs.List.{AllByRecursion}
use Rattle.std.specs.Option.{is_none, is_some, option_map, option_map_or}
use Rattle.std.proofs.lemmas.Bool.{and_from, false≢true, or_left, or_right}
use Rattle.std.proofs.lemmas.Option.{same_Some}
use Rattle.ckr_base.proofs.Bools.{and-first, and-second}
use Rattle.ckr_base.proofs.Numbers.{equal-false, equal-from, equal-itself, equal-true, nat_le-from, nat_le-true}
use Rattle.ckr_base.proofs.Options.{some-not-none, some-one}
use Rattle.ckr_base.specs.Grammar.{is_check_id}
use Rattle.ckr_entry.specs.Parts.{Entry}
use Rattle.ckr_events.specs.declared.event.Event.TheVariants.{Checkpointed}
use Rattle.ckr_library.proofs.Named.{at-with_changed, at-with_entry, each-at, name-itself, name-same, name-turned}
use Rattle.ckr_library.specs.Catalog.{Holding, fresh_holding, records_of, set_of, with_length}
use Rattle.ckr_library.specs.NameMaps.{Name, Named, entry_at, same_name, with_changed, with_entry}
use Rattle.ckr_library.specs.declared.sets.DataSet.{DataSet}
use Rattle.ckr_meaning.specs.EffectiveJob.{OwnedStep, is_among}
use Rattle.ckr_points.specs.Follows.{are_lengths, follows, is_checkpoint, is_in_state, is_length_of, is_running, is_within, lengths_follow, of_step, own_step, state_number}
use Rattle.ckr_points.specs.Restart.{kept_at, place_of}
use Rattle.ckr_points.specs.Rows.{RunRow, TableSet, TablesModel, run_of}
use Rattle.ckr_points.specs.Soundness.{AreLaidOut}
use Rattle.ckr_points.specs.declared.run.RunState.TheVariants.{On}
use Rattle.ckr_desk_plans.specs.Model.Commit.{output_names}
use Rattle.ckr_points_tables.specs.Checkpoint.{checkpoint_name}
use Rattle.ckr_desk_plans.specs.Model.Units.{taken_of}
use Rattle.ckr_volumes.specs.Layouts.{StandsIn}
use Rattle.ckr_volumes.specs.declared.layout.Layout.{Layout}
use Rattle.ckr_desk_turn.specs.Checkpoints.{is_in_range}
use Rattle.ckr_desk_turn.specs.Queue.{AreNumbered}
use Rattle.ckr_desk_turn.proofs.Queue.Events.{run_number}
use Rattle.ckr_desk_plans.specs.declared.checkpoint.Checkpoint.{Checkpoint}
use Rattle.ckr_desk_memory.specs.Checkpoints.{HasEntrySpace, IsCheckpointOf, event_in_set}
use Rattle.ckr_desk_plans.specs.Entries.{entry_bytes, entry_end, entry_in_set, entry_to, fits_in, is_written, next_entry, next_id}
use Rattle.ckr_desk_plans.specs.EntryMarks.{length_behind}
use Rattle.ckr_desk_memory.specs.EventChanges.{has_space, is_of_run, with_entry_end, without_first}
use Rattle.ckr_desk_memory.specs.Holders.{changed_names}
use Rattle.ckr_desk_memory.specs.OwnSets.{AreCopies, AreUpTo, CommitsItsOwn, IsCommittedWith, IsOfOther, IsRunningOf}
use Rattle.ckr_desk_memory.specs.OwnSteps.{AreSingle}
use Rattle.ckr_desk_memory.specs.Start.{AllFit}
use Rattle.ckr_desk_memory.specs.View.{RunningStepView, length_in}
use Rattle.ckr_desk_memory.proofs.EntrySizes.{entry-size}
use Rattle.ckr_desk_memory.proofs.Holders.CheckSets.{check-among, check-named}
use Rattle.ckr_desk_memory.proofs.Holders.Names.{outputs-changed}
use Rattle.ckr_desk_memory.proofs.Holders.OwnEvents.{own-length}
use Rattle.ckr_desk_memory.proofs.Holders.OwnSteps.{others-first}

-- ---- an entry that fits

module _ (check : Name) (table : TableSet) (tables : TablesModel) (row : RunRow) (own : OwnedStep) (on : RunningStepView) where
  abbrev its_end : ℕ
  its_end = entry_end check table tables row own on

  abbrev its_entry : Entry
  its_entry = entry_to (Some check) its_end tables row own on

  abbrev within : Bool
  within = nat_le its_end table.set.space

  abbrev absent : Bool
  absent = is_none (kept_at tables.sets check (next_id row own))

  -- by the tests that it passes
  pub record PassesTests : Type 0 where
    pub records : table.set.lrecl ≡ 256
    pub space : its_end ≤ table.set.space
    pub none : absent ≡ true
    pub grammar : is_check_id (next_id row own) ≡ true

  pub passes-tests : fits_in check table tables row own on ≡ true → PassesTests
  unfolding fits_in entry_to
  passes-tests fits =
      let all = and-second (table.set.lrecl == 256) _ fits in
      let three = and-first (within && absent && is_in_range its_entry) (is_written its_entry) all in
      let two = and-first (within && absent) (is_in_range its_entry) three in
      record {
        records = equal-true table.set.lrecl 256 (and-first (table.set.lrecl == 256) _ fits);
        space = nat_le-true its_end table.set.space (and-first within absent two);
        none = and-second within absent two;
        grammar = and-first (is_check_id (next_id row own)) _ (and-second (within && absent && is_in_range its_entry) (is_written its_entry) all);
      }

  -- the next entry is the one that goes into this data set, and fits there
  pub next-fits : (entry : Entry) → Some entry ≡ next_entry tables row own on → checkpoint_name row.job.root own ≡ Some check → entry_at tables.sets check ≡ Some table → (fits_in check table tables row own on ≡ true) × (entry ≡ its_entry)
  unfolding entry_in_set
  next-fits entry is some there =
      by (fits_in check table tables row own on) refl
      (is ∙ ap (λ (found : Option Name). option_and_then (λ check. option_and_then (entry_in_set tables row own on check) (entry_at tables.sets check)) found) some
      ∙ ap (option_and_then (entry_in_set tables row own on check)) there)
    where
      by : (b : Bool) → fits_in check table tables row own on ≡ b → Some entry ≡ (if b then Some its_entry else None) → (fits_in check table tables row own on ≡ true) × (entry ≡ its_entry)
      by true e is = (e, same_Some entry its_entry is)
      by false e is = absurd (some-not-none entry is)

  -- its parts, by the step
  pub entry-id : its_entry.id ≡ next_id row own
  unfolding entry_to
  entry-id = refl

  pub entry-taken : its_entry.taken ≡ taken_of on.step.state
  unfolding entry_to
  entry-taken = refl

  pub entry-writes : its_entry.writes ≡ on.step.writes
  unfolding entry_to
  entry-writes = refl

  -- ---- its event

  -- the step's data sets with that for checkpoints as long as behind the entry
  pub lengths-are : (set : DataSet) (names : List Name) → map (length_in (with_entry check (fresh_holding (record set { length = its_end })) on.sets.sets)) names ≡ map (length_behind (Some check) its_end on.sets.sets) names
  lengths-are set [] = refl
  lengths-are set (name ∷ names) =
      ap (λ n. n ∷ map (length_in (with_entry check (fresh_holding (record set { length = its_end })) on.sets.sets)) names)
      (ap (λ (held : Option Holding). option_map_or (λ (h : Holding). h.set.length) held 0) (at-with_entry check name (fresh_holding (record set { length = its_end })) on.sets.sets) ∙ by (same_name name check))
      ∙ ap (λ ns. length_behind (Some check) its_end on.sets.sets name ∷ ns) (lengths-are set names)
    where
      by : (b : Bool) → option_map_or (λ (h : Holding). h.set.length) (cond b (Some (fresh_holding (record set { length = its_end }))) (entry_at on.sets.sets name)) 0 ≡ (if b then its_end else length_in on.sets.sets name)
      by true = refl
      by false = refl

  pub event-is : (run taken writes place bytes : ℕ) (id : Name) (lengths : List ℕ) → run ≡ row.number → id ≡ next_id row own → taken ≡ taken_of on.step.state → writes ≡ on.step.writes
      → lengths ≡ map (length_behind (Some check) its_end on.sets.sets) (output_names row.job.root own) → place ≡ table.set.length → bytes ≡ entry_bytes check tables row own on
      → Checkpointed run id taken writes (record { items = lengths }) place bytes ≡ event_in_set tables row own on check table
  event-is run taken writes place bytes id lengths a b c d e f g =
      ap (λ run. Checkpointed run id taken writes (record { items = lengths }) place bytes) a
      ∙ ap (λ id. Checkpointed row.number id taken writes (record { items = lengths }) place bytes) b
      ∙ ap (λ taken. Checkpointed row.number (next_id row own) taken writes (record { items = lengths }) place bytes) c
      ∙ ap (λ writes. Checkpointed row.number (next_id row own) (taken_of on.step.state) writes (record { items = lengths }) place bytes) d
      ∙ ap (λ lengths. Checkpointed row.number (next_id row own) (taken_of on.step.state) on.step.writes (record { items = lengths }) place bytes) e
      ∙ ap (λ place. Checkpointed row.number (next_id row own) (taken_of on.step.state) on.step.writes (record { items = map (length_behind (Some check) its_end on.sets.sets) (output_names row.job.root own) }) place bytes) f
      ∙ ap (λ bytes. Checkpointed row.number (next_id row own) (taken_of on.step.state) on.step.writes (record { items = map (length_behind (Some check) its_end on.sets.sets) (output_names row.job.root own) }) table.set.length bytes) g

-- ---- lengths by a size of each name

sized-lengths : (sets : Named TableSet) (size : Name → ℕ) (names : List Name)
    → ((name : Name) → is_among names name ≡ true → option_map_or (λ table. nat_le table.set.length (size name) && nat_le (size name) table.set.space) (entry_at sets name) false ≡ true) → are_lengths sets names (map size names) ≡ true
sized-lengths sets size [] each = refl
sized-lengths sets size (name ∷ names) each =
    and_from _ (are_lengths sets names (map size names)) (each name (or_left (same_name name name) (is_among names name) (name-itself name)))
    (sized-lengths sets size names (λ other among. each other (or_right (same_name other name) (is_among names other) among)))

sized-length : (size : Name → ℕ) (check : Name) (most : ℕ) → ((name : Name) → same_name name check ≡ true → size name ≡ most) → (names : List Name) → is_among names check ≡ true → is_length_of check most names (map size names) ≡ true
sized-length size check most at [] among = absurd (false≢true among)
sized-length size check most at (first ∷ names) among = by (same_name first check) refl (sized-length size check most at names)
  where
    by : (b : Bool) → same_name first check ≡ b → (is_among names check ≡ true → is_length_of check most names (map size names) ≡ true) → (if b then size first == most else is_length_of check most names (map size names)) ≡ true
    by true same later = equal-from (size first) most (at first same)
    by false apart later =
        later (sym (ap (λ b. b || is_among names check) (name-turned check first ∙ apart)) ∙ among)

sized-up_to : (owns : Named Holding) (size : Name → ℕ) → ((name : Name) → size name ≤ length_in owns name) → (names : List Name) → AreUpTo owns names (map size names)
sized-up_to owns size each [] = tt
sized-up_to owns size each (name ∷ names) = (each name, sized-up_to owns size each names)

-- ---- its data set

-- its data set stands in the layout, with the records of the entry behind its last one
pub entry-space : (layout : Layout) (tables : TablesModel) (on : RunningStepView) (made : Checkpoint) → AreLaidOut layout tables.sets → IsCheckpointOf tables on made → HasEntrySpace layout made
entry-space layout tables on made laid its =
    let tests = passes-tests its.check its.table tables its.row its.own on its.fits in
    let bytes = ap length its.entry ∙ entry-size its.check (entry_end its.check its.table tables its.row its.own on) tables its.row its.own on in
    record {
      stands = subst (StandsIn layout) (sym its.set) (each-at (λ (table : TableSet). StandsIn layout table.set) tables.sets laid.stand its.check its.table its.there);
      records = ap (λ (set : DataSet). set.lrecl) its.set ∙ tests.records;
      space =
          subst (λ (set : DataSet). set.length + records_of (length made.entry.items) ≤ set.space) (sym its.set)
          (subst (λ n. its.table.set.length + records_of n ≤ its.table.set.space) (sym bytes) tests.space);
    }

-- ---- the event of a step that is running

abbrev the_set : Holding → DataSet
the_set held = held.set

-- a copy of the data set for checkpoints has the space for the entry
copy_room : (most : ℕ) (entry : Option TableSet) (held : Option Holding) (table : TableSet) → entry ≡ Some table → most ≤ table.set.space → AreCopies entry (option_map the_set held)
    → option_map_or (λ (h : Holding). nat_le most h.set.space) held false ≡ true
copy_room most None held table at fits are = absurd are
copy_room most (Some one) None table at fits are = absurd are
copy_room most (Some one) (Some held) table at fits are =
    nat_le-from most held.set.space (subst (λ n. most ≤ n) (ap (λ (t : TableSet). t.set.space) (sym (same_Some one table at)) ∙ sym are.space) fits)

-- and it is so long then
long_there : (most : ℕ) (held : Option Holding) → option_map_or (λ (h : Holding). nat_le most h.set.space) held false ≡ true → most ≤ option_map_or (λ (h : Holding). h.set.length) (option_map (with_length most) held) 0
long_there most None fits = absurd (false≢true fits)
long_there most (Some held) fits = omega arith

module _ (tables : TablesModel) (numbered : AreNumbered 1 tables.runs) (on : RunningStepView) (is : IsRunningOf tables on) (made : Checkpoint) (its : IsCheckpointOf tables on made) where
  same_row : is.row ≡ its.row
  same_row = some-one is.row its.row (run_of tables on.run) is.row_at its.row_at

  same_step : is.owned ≡ its.own
  same_step = some-one is.owned its.own (own_step its.row) (ap own_step (sym same_row) ∙ is.found) its.found

  by-its : (Q : RunRow → OwnedStep → Type 0) → Q is.row is.owned → Q its.row its.own
  by-its Q q = subst (Q its.row) same_step (subst (λ row. Q row is.owned) same_row q)

  runs : is_running its.row ≡ true
  runs = by-its (λ row own. is_running row ≡ true) (and_from (is_in_state On is.row) (is_within (place_of is.row)) (ap (λ s. state_number s == 2) is.state) is.within)

  copies : (name : Name) → is_among (changed_names its.row.job.root its.own) name ≡ true → AreCopies (entry_at tables.sets name) (set_of on.sets name)
  copies = by-its (λ row own. (name : Name) → is_among (changed_names row.job.root own) name ≡ true → AreCopies (entry_at tables.sets name) (set_of on.sets name)) is.changed

  number : its.row.number ≡ on.run
  number = run_number tables on.run its.row numbered its.row_at

  abbrev names : List Name
  names = output_names its.row.job.root its.own

  abbrev most : ℕ
  most = entry_end its.check its.table tables its.row its.own on

  abbrev size : Name → ℕ
  size name = length_behind (Some its.check) (entry_end its.check its.table tables its.row its.own on) on.sets.sets name

  abbrev lengths : List ℕ
  lengths = map (length_behind (Some its.check) (entry_end its.check its.table tables its.row its.own on) on.sets.sets) (output_names its.row.job.root its.own)

  tests : PassesTests its.check its.table tables its.row its.own on
  tests = passes-tests its.check its.table tables its.row its.own on its.fits

  among : is_among names its.check ≡ true
  among = check-among its.row.job.root its.own its.check its.named

  size_check : (name : Name) → same_name name its.check ≡ true → size name ≡ most
  size_check name same = ap (λ b. if b then most else length_in on.sets.sets name) same

  -- ---- it follows

  abbrev between_at : Name → ℕ → Bool
  between_at name now = option_map_or (λ (table : TableSet). nat_le table.set.length now && nat_le now table.set.space) (entry_at tables.sets name) false

  each_follows : AllFit on.sets.sets → (name : Name) → is_among names name ≡ true → between_at name (size name) ≡ true
  each_follows fit name output = by (same_name name its.check) refl
    where
      by : (b : Bool) → same_name name its.check ≡ b → between_at name (if b then most else length_in on.sets.sets name) ≡ true
      by true same =
          ap (λ (entry : Option TableSet). option_map_or (λ (table : TableSet). nat_le table.set.length most && nat_le most table.set.space) entry false) (ap (entry_at tables.sets) (name-same name its.check same) ∙ its.there)
          ∙ and_from (nat_le its.table.set.length most) (nat_le most its.table.set.space) (nat_le-from its.table.set.length most (omega arith)) (nat_le-from most its.table.set.space tests.space)
      by false apart = own-length (entry_at tables.sets name) (entry_at on.sets.sets name) (copies name (outputs-changed its.row.job.root its.own name output)) (fit name)

  abbrev stands_at : Name → Bool
  stands_at name = option_map_or (λ (table : TableSet). its.table.set.length == table.set.length && is_none (kept_at tables.sets name (next_id its.row its.own))) (entry_at tables.sets name) false

  checks : is_checkpoint tables (next_id its.row its.own) lengths its.table.set.length (entry_bytes its.check tables its.row its.own on) its.row its.own ≡ true
  checks =
      ap (λ name. stands_at name && is_length_of name most names lengths) (check-named its.row.job.root its.own its.check its.named)
      ∙ and_from (stands_at its.check) (is_length_of its.check most names lengths)
      (ap (λ (entry : Option TableSet). option_map_or (λ (table : TableSet). its.table.set.length == table.set.length && is_none (kept_at tables.sets its.check (next_id its.row its.own))) entry false) its.there
      ∙ and_from (its.table.set.length == its.table.set.length) (is_none (kept_at tables.sets its.check (next_id its.row its.own))) (equal-itself its.table.set.length) tests.none)
      (sized-length size its.check most size_check names among)

  abbrev follows_at : RunRow → Bool
  follows_at row =
      is_running row && lengths_follow tables row lengths
      && of_step row (is_checkpoint tables (next_id its.row its.own) lengths its.table.set.length (entry_bytes its.check tables its.row its.own on) row)

  pub checkpoint-follows : (layout : Layout) → AllFit on.sets.sets → follows layout tables made.event None ≡ true
  checkpoint-follows layout fit =
      subst (λ event. follows layout tables event None ≡ true) (sym its.event)
      (ap (λ n. option_map_or follows_at (run_of tables n) false) number
      ∙ ap (λ (row : Option RunRow). option_map_or follows_at row false) its.row_at
      ∙ and_from (is_running its.row && lengths_follow tables its.row lengths) _
      (and_from (is_running its.row) (lengths_follow tables its.row lengths) runs
      (ap (λ (own : Option OwnedStep). option_map_or (λ own. are_lengths tables.sets (output_names its.row.job.root own) lengths) own false) its.found
      ∙ sized-lengths tables.sets size names (each_follows fit)))
      (ap
      (λ (own : Option OwnedStep).
      option_map_or (is_checkpoint tables (next_id its.row its.own) lengths its.table.set.length (entry_bytes its.check tables its.row its.own on) its.row) own false) its.found
      ∙ checks))

  -- ---- it commits what the step has

  abbrev behind : Named Holding
  behind = with_entry_end (Some its.check) most on.sets.sets

  abbrev longer : Named Holding
  longer = with_changed its.check (with_length most) on.sets.sets

  room : has_space most its.check on.sets.sets ≡ true
  room = copy_room most (entry_at tables.sets its.check) (entry_at on.sets.sets its.check) its.table its.there tests.space (copies its.check (outputs-changed its.row.job.root its.own its.check among))

  size_up : (name : Name) → size name ≤ length_in behind name
  size_up name =
      subst (λ b. size name ≤ length_in (if b then longer else on.sets.sets) name) (sym room)
      (subst (λ held. size name ≤ option_map_or (λ (h : Holding). h.set.length) held 0) (sym (at-with_changed its.check name (with_length most) on.sets.sets)) (by (same_name name its.check) refl))
    where
      by : (b : Bool) → same_name name its.check ≡ b
          → (if b then most else length_in on.sets.sets name) ≤ option_map_or (λ (h : Holding). h.set.length) (cond b (option_map (with_length most) (entry_at on.sets.sets name)) (entry_at on.sets.sets name)) 0
      by true same = long_there most (entry_at on.sets.sets name) (ap (λ n. has_space most n on.sets.sets) (name-same name its.check same) ∙ room)
      by false apart = omega arith

  own_committed : (row : RunRow) (own : OwnedStep) → run_of tables on.run ≡ Some row → own_step row ≡ Some own → AreUpTo (with_entry_end (checkpoint_name row.job.root own) most on.sets.sets) (output_names row.job.root own) lengths
  own_committed row own at found =
      let mine : its.row ≡ row = some-one its.row row (run_of tables on.run) its.row_at at in
      let step : its.own ≡ own = some-one its.own own (own_step row) (ap own_step (sym mine) ∙ its.found) found in
      subst (λ own. AreUpTo (with_entry_end (checkpoint_name row.job.root own) most on.sets.sets) (output_names row.job.root own) lengths) step
      (subst (λ (row : RunRow). AreUpTo (with_entry_end (checkpoint_name row.job.root its.own) most on.sets.sets) (output_names row.job.root its.own) lengths) mine
      (subst (λ check. AreUpTo (with_entry_end check most on.sets.sets) names lengths) (sym its.named) (sized-up_to behind size size_up names)))

  module _ (running : List RunningStepView) (single : AreSingle running) (first : find (is_of_run on.run) running ≡ Some on) where
    abbrev Commits : RunningStepView → Type 0
    Commits other = (row : RunRow) (own : OwnedStep) → run_of tables on.run ≡ Some row → own_step row ≡ Some own → AreUpTo (with_entry_end (checkpoint_name row.job.root own) most other.sets.sets) (output_names row.job.root own) lengths

    others_commit : (others : List RunningStepView) → AllByRecursion (IsOfOther on.run) others → AllByRecursion (IsCommittedWith most on.run lengths tables) others
    others_commit [] apart = tt
    others_commit (other ∷ rest) apart = (λ same. absurd (apart.0 same), others_commit rest apart.1)

    all_commit : (others : List RunningStepView) → AreSingle others → find (is_of_run on.run) others ≡ Some on → AllByRecursion (IsCommittedWith most on.run lengths tables) others
    all_commit [] single found = tt
    all_commit (other ∷ rest) single found = by (is_of_run on.run other) refl (all_commit rest single.1) found
      where
        by : (b : Bool) → is_of_run on.run other ≡ b → (find (is_of_run on.run) rest ≡ Some on → AllByRecursion (IsCommittedWith most on.run lengths tables) rest) → cond b (Some other) (find (is_of_run on.run) rest) ≡ Some on → AllByRecursion (IsCommittedWith most on.run lengths tables) (other ∷ rest)
        by true e later found = (
          λ same. subst Commits (sym (same_Some other on found)) own_committed,
          others_commit rest (subst (λ n. AllByRecursion (IsOfOther n) rest) (equal-true other.run on.run e) single.0),
        )
        by false e later found = (λ same. absurd (equal-false other.run on.run e same), later found)

    pub checkpoint-commits : CommitsItsOwn made.event tables running
    checkpoint-commits =
        subst (λ event. CommitsItsOwn event tables running) (sym its.event)
        (subst (λ n. AllByRecursion (IsCommittedWith most n lengths tables) running × AllByRecursion (IsOfOther n) (without_first n running) × IsSome (find (is_of_run n) running)) (sym number)
        (all_commit running single first, others-first on.run running single, ap is_some first))
