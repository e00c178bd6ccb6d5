-- A run is ready where it has taken a checkpoint.
use Rattle.std.proofs.Common.{◌≡◌, ℕ, suc, ◌+◌, Bool, true, false, cond, not, if◌then◌else◌, ◌&&◌, List, [], ◌∷◌, filter, refl, ap, sym, ◌∙◌, subst, Option, Some, None, arith}
use Rattle.std.specs.Prelude.{◌==◌, nat_le}
use Rattle.std.specs.List.{cons_option, filter_map, find}
use Rattle.std.specs.Option.{is_none, option_map, option_map_or}
use Rattle.std.proofs.lemmas.Bool.{and_from, false≢true, not-true, or_from, or_parts}
use Rattle.std.proofs.lemmas.Option.{same_Some}
use Rattle.ckr_base.proofs.Bools.{and-first, and-second, bool-cases}
use Rattle.ckr_base.proofs.Numbers.{equal-true, nat_le-from}
use Rattle.ckr_base.proofs.Options.{is_none-true, option-cases, some-one}
use Rattle.ckr_base.proofs.Sequences.{find-append, find-filter-none}
use Rattle.ckr_entry.specs.declared.point.Present.{Present}
use Rattle.ckr_jcl.specs.declared.deck.Dd.{Dd}
use Rattle.ckr_library.specs.Catalog.{ends_within, records_of}
use Rattle.ckr_library.specs.declared.sets.Kept.{Kept}
use Rattle.ckr_library.specs.NameMaps.{Name, Named, same_name, entry_at, with_changed}
use Rattle.ckr_library.proofs.Named.{at-with_changed, at-with_changed-other, name-itself, name-same}
use Rattle.ckr_meaning.specs.Allotments.{is_output}
use Rattle.ckr_meaning.specs.EffectiveJob.{Effective, OwnedStep, is_among, name_of, names_of, step_at}
use Rattle.ckr_meaning.specs.JobRun.{at}
use Rattle.ckr_meaning.specs.StepRun.{within_at}
use Rattle.ckr_meaning.specs.declared.place.Place.TheVariants.{Within}
use Rattle.ckr_uses.specs.Uses.{are_distinct}
use Rattle.ckr_volumes.specs.declared.layout.Layout.{Layout}
use Rattle.ckr_points_library.specs.Commit.{output_names}
use Rattle.ckr_points.specs.Follows.{are_lengths, is_checkpoint, is_length_of, is_within}
use Rattle.ckr_points.specs.Marks.{marks_now, own_names, point_at, present_at, present_of}
use Rattle.ckr_points.specs.Office.{Leg, Office}
use Rattle.ckr_points.specs.Payload.{carries_taken, commits, is_formed_step, writes_in}
use Rattle.ckr_points.specs.Restart.{kept_at, place_of}
use Rattle.ckr_points.specs.Rows.{KeptEntry, RunRow, StartPoint, TableSet, cut_set}
use Rattle.ckr_points.specs.Tables.{committed, entry_point, fresh_effect, is_checkpoints, kept_entry, name_with_role, with_kept_entry}
use Rattle.ckr_points_invariant.specs.Invariant.{AreAlike, IsAgreed, IsAtPlace, set_shape, step_now}
use Rattle.ckr_points_invariant.specs.Points.{IsPointAt}
use Rattle.ckr_points_invariant.proofs.Holders.Places.{outputs-among}
use Rattle.ckr_points_invariant.proofs.Marks.Points.{present-now}
use Rattle.ckr_points_invariant.proofs.Points.Places.{point-now}
use Rattle.ckr_points_invariant.proofs.RunEnd.Event.{committed_office, kept_then, running_then}
use Rattle.ckr_points_invariant.proofs.Steps.Commits.{alike_within, formed_step, found_leg}
use Rattle.ckr_points_invariant.proofs.Steps.Walks.{at-within}
use Rattle.ckr_points_invariant.proofs.Writes.Likeness.{committed-other}
use Rattle.ckr_points_invariant.specs.Readiness.{IsCheck, IsReady, KeepsEntry}
use Rattle.ckr_points_invariant.specs.Restorability.{HasPoint, IsRestorable}
use Rattle.ckr_points_invariant.specs.RunningSteps.{IsRunning, its_start}
use Rattle.ckr_points_invariant.proofs.OtherRuns.Sets.{length-among}
use Rattle.ckr_points_invariant.proofs.Readiness.Commits.{HasTable, committed-has, committed-restorable, next_row, sets_behind, start_is}
use Rattle.ckr_points_invariant.proofs.Readiness.Writes.{unwritten-none}
use Rattle.ckr_points_invariant.proofs.Restart.Invariant.{point-of}

-- ---- the outputs of a step are different

fewer_out : {A : Type 0} (kept : A → Bool) (f : A → Option Name) (items : List A) (name : Name) → is_among (filter_map f items) name ≡ false → is_among (filter_map f (filter kept items)) name ≡ false
fewer_out kept f [] name out = refl
fewer_out kept f (first ∷ rest) name out =
    elim (kept first) as (λ b. is_among (filter_map f (cond b (first ∷ filter kept rest) (filter kept rest))) name ≡ false) [
      | true ↦ here (f first) out (fewer_out kept f rest name)
      | false ↦ there (f first) out (fewer_out kept f rest name)
    ]
  where
    here : (o : Option Name) → is_among (cons_option o (filter_map f rest)) name ≡ false → (is_among (filter_map f rest) name ≡ false → is_among (filter_map f (filter kept rest)) name ≡ false) → is_among (cons_option o (filter_map f (filter kept rest))) name ≡ false
    here None out more = more out
    here (Some other) out more = let parts = or_parts (same_name name other) _ out in or_from (same_name name other) _ parts.0 (more parts.1)

    there : (o : Option Name) → is_among (cons_option o (filter_map f rest)) name ≡ false → (is_among (filter_map f rest) name ≡ false → is_among (filter_map f (filter kept rest)) name ≡ false) → is_among (filter_map f (filter kept rest)) name ≡ false
    there None out more = more out
    there (Some other) out more = more (or_parts (same_name name other) _ out).1

fewer_distinct : {A : Type 0} (kept : A → Bool) (f : A → Option Name) (items : List A) → are_distinct (filter_map f items) ≡ true → are_distinct (filter_map f (filter kept items)) ≡ true
fewer_distinct kept f [] distinct = refl
fewer_distinct kept f (first ∷ rest) distinct =
    elim (kept first) as (λ b. are_distinct (filter_map f (cond b (first ∷ filter kept rest) (filter kept rest))) ≡ true) [
      | true ↦ here (f first) distinct (fewer_distinct kept f rest)
      | false ↦ there (f first) distinct (fewer_distinct kept f rest)
    ]
  where
    here : (o : Option Name) → are_distinct (cons_option o (filter_map f rest)) ≡ true → (are_distinct (filter_map f rest) ≡ true → are_distinct (filter_map f (filter kept rest)) ≡ true) → are_distinct (cons_option o (filter_map f (filter kept rest))) ≡ true
    here None distinct more = more distinct
    here (Some other) distinct more =
        and_from (not (is_among (filter_map f (filter kept rest)) other)) _
        (ap not (fewer_out kept f rest other (not-true (is_among (filter_map f rest) other) (and-first (not (is_among (filter_map f rest) other)) _ distinct))))
        (more (and-second (not (is_among (filter_map f rest) other)) _ distinct))

    there : (o : Option Name) → are_distinct (cons_option o (filter_map f rest)) ≡ true → (are_distinct (filter_map f rest) ≡ true → are_distinct (filter_map f (filter kept rest)) ≡ true) → are_distinct (filter_map f (filter kept rest)) ≡ true
    there None distinct more = more distinct
    there (Some other) distinct more = more (and-second (not (is_among (filter_map f rest) other)) _ distinct)

outputs-distinct : (root : ℕ) (owned : OwnedStep) → is_formed_step root owned ≡ true → are_distinct (output_names root owned) ≡ true
outputs-distinct root owned formed =
    fewer_distinct (λ (dd : Dd). is_output dd.role) (name_of root owned) owned.step.dds
    (and-first (are_distinct (names_of root owned)) _ (and-first (are_distinct (names_of root owned) && _) _ formed))

-- ---- the length that is committed

committed-length : (set : Name) (most : ℕ) (outputs : List Name) (lengths : List ℕ) (sets : Named TableSet) (table : TableSet) → are_distinct outputs ≡ true → is_length_of set most outputs lengths ≡ true → entry_at sets set ≡ Some table → (cut : TableSet) × (entry_at (committed outputs lengths sets) set ≡ Some cut) × (cut.set.length ≡ most)
committed-length set most [] lengths sets table distinct e at = absurd (false≢true e)
committed-length set most (first ∷ outputs) [] sets table distinct e at = absurd (false≢true e)
committed-length set most (first ∷ outputs) (now ∷ lengths) sets table distinct e at =
    by (same_name first set) refl e
    (λ apart later.
    committed-length set most outputs lengths (with_changed first (cut_set now) sets) table (and-second (not (is_among outputs first)) _ distinct) later
    (at-with_changed-other first set (cut_set now) sets (ap (λ n. n) (turned first set apart)) ∙ at))
  where
    turned : (one other : Name) → same_name one other ≡ false → same_name other one ≡ false
    turned one other apart =
        bool-cases (same_name other one) (λ same. absurd (false≢true (sym apart ∙ ap (λ n. same_name n other) (sym (name-same other one same)) ∙ name-itself other))) (λ e. e)

    by : (b : Bool) → same_name first set ≡ b → (if b then now == most else is_length_of set most outputs lengths) ≡ true → (same_name first set ≡ false → is_length_of set most outputs lengths ≡ true → (cut : TableSet) × (entry_at (committed outputs lengths (with_changed first (cut_set now) sets)) set ≡ Some cut) × (cut.set.length ≡ most)) → (cut : TableSet) × (entry_at (committed outputs lengths (with_changed first (cut_set now) sets)) set ≡ Some cut) × (cut.set.length ≡ most)
    by true same e others =
        let is : first ≡ set = name-same first set same in (
          cut_set now table,
          committed-other outputs lengths (with_changed first (cut_set now) sets) set
              (ap (is_among outputs) (sym is) ∙ not-true (is_among outputs first) (and-first (not (is_among outputs first)) _ distinct))
              ∙ at-with_changed first set (cut_set now) sets
              ∙ ap (λ b. cond b (option_map (cut_set now) (entry_at sets set)) (entry_at sets set)) (ap (same_name set) is ∙ name-itself set)
              ∙ ap (option_map (cut_set now)) at,
          equal-true now most e,
        )
    by false apart e others = others apart e

-- ---- lists of entries

-- ---- the run behind its checkpoint

module _ (layout : Layout) (now : Office) (job : ℕ) (row : RunRow) (leg : Leg) (owned : OwnedStep) (writes taken place bytes : ℕ) (id : Name) (lengths : List ℕ) (kept : IsAgreed layout now)
    (running : IsRunning now job row leg owned (step_now row) (writes_in (place_of row)))
    (carried : commits now.tables.sets row writes lengths (its_start leg owned (step_now row)) ≡ true)
    (told : carries_taken taken writes (its_start leg owned (step_now row)) ≡ true)
    (are : are_lengths now.tables.sets (output_names row.job.root owned) lengths ≡ true)
    (check : is_checkpoint now.tables id lengths place bytes row owned ≡ true)
    (ready : IsReady now.tables.sets row leg) where
  at_place : IsAtPlace now.tables row leg
  at_place = kept.places job row leg running.holder

  found_at : step_at leg.job (step_now row) ≡ Some owned
  found_at = found_leg layout now job row leg owned (step_now row) (writes_in (place_of row)) kept running

  abbrev outputs : List Name
  outputs = output_names row.job.root owned

  abbrev set : Name
  set = name_with_role row.job.root owned is_checkpoints

  abbrev most : ℕ
  most = place + records_of bytes

  abbrev kept_now : Kept
  kept_now = record { id = id; run = job; place = place; bytes = bytes }

  abbrev done : Named TableSet
  done = sets_behind layout now job row leg owned writes lengths kept running carried are

  abbrev pub entry : KeptEntry
  entry = kept_entry kept_now (entry_point row owned (step_now row) taken writes done)

  abbrev pub checked_sets : Named TableSet
  checked_sets = with_changed set (with_kept_entry entry) done

  abbrev pub checked_row : RunRow
  checked_row = next_row layout now job row leg owned writes lengths kept running carried are row.state row.initiator row.code (suc row.count) (Some (fresh_effect set kept_now))

  length_told : is_length_of set most outputs lengths ≡ true
  length_told = and-second _ (is_length_of set most outputs lengths) check

  pub listed_set : is_among outputs set ≡ true
  listed_set = length-among set most outputs lengths length_told

  fresh_id : option_map_or (λ (table : TableSet). place == table.set.length && is_none (kept_at now.tables.sets set id)) (entry_at now.tables.sets set) false ≡ true
  fresh_id = and-first _ (is_length_of set most outputs lengths) check

  distinct_outputs : are_distinct outputs ≡ true
  distinct_outputs =
      ap (λ (effective : Effective). are_distinct (output_names effective.root owned)) (sym at_place.job)
      ∙ outputs-distinct leg.job.root owned (formed_step layout now job row leg owned (step_now row) (writes_in (place_of row)) kept running)

  record Taken : Type 0 where
    table : TableSet
    at : entry_at done set ≡ Some table
    length_is : table.set.length ≡ most
    unknown : find (λ (one : KeptEntry). same_name one.kept.id id) table.entries ≡ None

  taken_so : Taken
  taken_so =
      option-cases (entry_at now.tables.sets set)
      (λ none. absurd (false≢true (sym (ap (λ (o : Option TableSet). option_map_or (λ (table : TableSet). place == table.set.length && is_none (kept_at now.tables.sets set id)) o false) none) ∙ fresh_id)))
      (λ table e.
      let P : TableSet → Type 0 = λ table. find (λ (one : KeptEntry). same_name one.kept.id id) table.entries ≡ None in
      let unknown_was : P table =
      sym (ap (λ (o : Option TableSet). option_map_or (λ table. find (λ (one : KeptEntry). same_name one.kept.id id) table.entries) o None) e)
      ∙ is_none-true (kept_at now.tables.sets set id)
      (and-second (place == table.set.length) _ (sym (ap (λ (o : Option TableSet). option_map_or (λ (table : TableSet). place == table.set.length && is_none (kept_at now.tables.sets set id)) o false) e) ∙ fresh_id)) in
      let cut = committed-length set most outputs lengths now.tables.sets table distinct_outputs length_told e in
      let has : HasTable P done set =
      committed-has P now.tables.sets set table e (λ most below its unknown. find-filter-none (λ (one : KeptEntry). same_name one.kept.id id) (λ (one : KeptEntry). ends_within most one.kept) its.entries unknown) outputs lengths now.tables.sets are
      (record { table = table; at = e; holds = unknown_was }) in
      record { table = cut.0; at = cut.1; length_is = cut.2; unknown = subst P (some-one has.table cut.0 (entry_at done set) has.at cut.1) has.holds })

  pub keeps_entry : KeepsEntry checked_sets set id entry
  keeps_entry = record {
    table = with_kept_entry entry taken_so.table;
    at = at-with_changed set set (with_kept_entry entry) done ∙ ap (λ b. cond b (option_map (with_kept_entry entry) (entry_at done set)) (entry_at done set)) (name-itself set) ∙ ap (option_map (with_kept_entry entry)) taken_so.at;
    found = find-append (λ (one : KeptEntry). same_name one.kept.id id) taken_so.table.entries entry taken_so.unknown (name-itself id);
    ends = ap (nat_le most) taken_so.length_is ∙ nat_le-from most most (omega arith);
  }

  own_step_name : (name : Name) → is_among outputs name ≡ true → is_among (own_names row) name ≡ true
  own_step_name name among =
      (at_place.ahead (step_now row) owned name (omega arith) found_at
      (outputs-among leg.job.root owned name (ap (λ (effective : Effective). is_among (output_names effective.root owned) name) at_place.job ∙ among))).1

  pub back_so : (present : Present) → present_at (marks_now row done) set ≡ Some present → ends_within present.length kept_now ≡ true
  back_so present e =
      let is : present_of taken_so.table ≡ present = same_Some (present_of taken_so.table) present (sym (present-now row done set (own_step_name set listed_set) ∙ ap (option_map present_of) taken_so.at) ∙ e) in
      ap (λ (p : Present). nat_le most p.length) (sym is) ∙ ap (nat_le most) taken_so.length_is ∙ nat_le-from most most (omega arith)

  agreed : IsAgreed layout (committed_office now row owned writes lengths)
  agreed = kept_then layout now job row leg owned writes lengths kept running carried are

  runs_then : IsRunning (committed_office now row owned writes lengths) job (record row { place = Some (Within (step_now row) writes) }) leg owned (step_now row) writes
  runs_then = running_then layout now job row leg owned writes lengths kept running carried are

  alike_then : (name : Name) → is_among leg.reach name ≡ true → AreAlike done (within_at (its_start leg owned (step_now row)) writes) name
  alike_then = alike_within layout (committed_office now row owned writes lengths) job (record row { place = Some (Within (step_now row) writes) }) leg owned (step_now row) writes agreed runs_then

  point_so : HasPoint leg (Within (step_now row) writes) (marks_now row done) row.passed
  point_so =
      point-of now job leg (Within (step_now row) writes) (marks_now row done) row.passed running.holder.leg_at
      (subst (λ run. IsPointAt now.legs run (Within (step_now row) writes) (marks_now row done) row.passed) (kept.numbered job row running.holder.row_at)
      (point-now layout now job row leg kept running.holder (Within (step_now row) writes) done refl
      (λ name among.
      alike_then name among
      ∙ ap (λ library. option_map set_shape (entry_at library name)) (sym (at-within leg.job leg.start (step_now row) writes owned found_at)))))

  since_so : IsRestorable checked_row leg writes
  since_so = record { behind = omega arith; unwritten = λ its at_step. unwritten-none its writes }

  within_now : is_within (place_of row) ≡ true
  within_now = ap is_within running.stands

  pub step_since : (point : StartPoint) → point_at row.points (step_now row) ≡ Some point → point.rewritten ≡ false → IsRestorable checked_row leg 0
  step_since point got unwritten =
      committed-restorable layout now job row leg owned writes lengths kept running carried are row.state row.initiator row.code (suc row.count) (Some (fresh_effect set kept_now)) 0
      (ready.steps point within_now got unwritten)

  check_so : IsCheck checked_sets checked_row leg (fresh_effect set kept_now)
  check_so = record {
    owned = owned;
    found_step = running.found;
    among = listed_set;
    entry = entry;
    keeps = keeps_entry;
    back = back_so;
    point = point_so;
    taken = λ its at_step.
        subst (λ s. carries_taken taken writes s ≡ true) (start_is layout now job row leg owned writes lengths kept running carried are its at_step) told;
    since = λ unwritten. since_so;
  }

  pub checked-ready : IsReady checked_sets checked_row leg
  checked-ready = record {
    begun = λ within. ready.begun within_now;
    steps = λ point within got unwritten. step_since point got unwritten;
    check = λ effect within got. subst (IsCheck checked_sets checked_row leg) (same_Some (fresh_effect set kept_now) effect got) check_so;
    none = λ out. absurd (false≢true (sym out));
  }
