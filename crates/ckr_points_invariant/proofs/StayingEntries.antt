-- An entry stays in its data set behind every event behind which that stands and reaches to the entry's end; and that of a checkpoint comes there.
use Rattle.std.proofs.Common.{◌≡◌, ◌≤◌, ◌+◌, ℕ, zero, suc, Bool, true, false, ◌&&◌, ◌||◌, List, [], ◌∷◌, ◌++◌, refl, ap, sym, ◌∙◌, subst, Option, Some, None, arith}
use Rattle.std.specs.Prelude.{◌==◌, nat_le}
use Rattle.std.specs.List.{find}
use Rattle.std.specs.Option.{option_map_or, option_or}
use Rattle.std.proofs.lemmas.Bool.{false≢true}
use Rattle.std.proofs.lemmas.List.Folds.{find-append}
use Rattle.arrayvec.specs.ArrayVec.{ArrayVec}
use Rattle.ckr_base.proofs.Bools.{and-first, and-second}
use Rattle.ckr_base.proofs.Numbers.{nat_le-true}
use Rattle.ckr_base.proofs.Options.{option-cases, some-one}
use Rattle.ckr_base.proofs.Sequences.{find-filter}
use Rattle.ckr_events.specs.declared.event.Event.{Event}
use Rattle.ckr_events.specs.declared.event.Event.TheVariants.{Checkpointed, Ended, Held, Restarted, Rewritten, Selected, Started, StepEnded, Submitted}
use Rattle.ckr_events.specs.declared.event.Ending.TheVariants.{Allocation, Coded, Completed}
use Rattle.ckr_events.specs.declared.event.Made.{Made}
use Rattle.ckr_jcl.specs.declared.deck.Job.{Job}
use Rattle.ckr_library.specs.Catalog.{ends_within, records_of}
use Rattle.ckr_library.specs.declared.sets.Kept.{Kept}
use Rattle.ckr_library.specs.NameMaps.{Name, Named, entry_at, same_name, with_changed}
use Rattle.ckr_meaning.specs.EffectiveJob.{OwnedStep, placed_in, stamp_of}
use Rattle.ckr_meaning.specs.declared.place.Place.{Place}
use Rattle.ckr_meaning.specs.declared.place.Place.TheVariants.{Before, Opened, Within}
use Rattle.ckr_volumes.specs.declared.layout.Layout.{Layout}
use Rattle.ckr_points_library.specs.Commit.{output_names}
use Rattle.ckr_points.specs.declared.run.RunState.TheVariants.{On, Released as ReleasedRun}
use Rattle.ckr_points.specs.Events.{AreSound, AreSoundFrom, IsNext}
use Rattle.ckr_points.specs.Follows.{are_lengths, ended_follows, follows, is_checkpoint, is_in_state, is_rewrite, is_running, is_within, lengths_follow, of_run, of_step, own_step}
use Rattle.ckr_points.specs.Marks.{has_passed, point_at, with_point}
use Rattle.ckr_points.specs.Office.{Office, office, office_after, office_from}
use Rattle.ckr_points.specs.Payload.{carries_taken, commits, writes_in}
use Rattle.ckr_points.specs.Restart.{Back, Decked, after_abnormal, after_chosen, after_continued, after_continued_at, after_passed_ended, after_put_back, after_restarted, back_to_entry, back_to_start, by_run, by_step, continued_row, deferred_entry, deferred_start, effect_restarted, kept_at, place_of, point_restarted, row_on, step_in, syschk_name}
use Rattle.ckr_points.specs.Rows.{EffectPoint, KeptEntry, RunRow, StartPoint, TableSet, TablesModel, run_of, standing_of, step_of_run, table_ways}
use Rattle.ckr_points.specs.Tables.{after_checkpointed, after_commit, after_dispositions, after_held, after_rewritten, after_started, after_step_ended, after_submitted, committed, earlier_made, is_updates, name_with_role, own_made, run_disposals, with_kept_entry}
use Rattle.ckr_points_invariant.specs.Checkpoints.{HasTaken, IsUncut, reaches_to_end, taken_entry}
use Rattle.ckr_points_invariant.specs.Invariant.{step_now}
use Rattle.ckr_points_invariant.specs.KeptEvents.{AreKept}
use Rattle.ckr_points_invariant.specs.Readiness.{KeepsEntry}
use Rattle.ckr_points_invariant.specs.WrittenEntries.{IsWrittenEntry, check_set}
use Rattle.ckr_points_invariant.specs.RunningSteps.{IsRunning, its_start}
use Rattle.ckr_points_invariant.proofs.Continuations.WrittenEntries.Marks.{kept-so}
use Rattle.ckr_points_invariant.proofs.EventList.{office-behind, sound-behind}
use Rattle.ckr_points_invariant.proofs.KeptEvents.{next-kept, prefix-kept}
use Rattle.ckr_points_invariant.proofs.Readiness.Checkpoints.{checked_sets, entry as new_entry, keeps_entry}
use Rattle.ckr_points_invariant.proofs.Readiness.Commits.{committed-keeps, longer-ends}
use Rattle.ckr_points_invariant.proofs.Readiness.Rows.{changed-to}
use Rattle.ckr_points_invariant.proofs.Readiness.Runs.{kept-entry}
use Rattle.ckr_points_invariant.proofs.Start.Event.{running-so}
use Rattle.ckr_points_invariant.proofs.Steps.Commits.{carried-of}
use Rattle.ckr_points_invariant.proofs.Steps.Events.{led-by, on-holds, step-by}
use Rattle.ckr_points_invariant.proofs.WaitingRuns.{follows-of, tested-run}
use Rattle.ckr_points_invariant.proofs.WrittenEntries.Checkpoints.{takes-room}
use Rattle.ckr_points_invariant.proofs.WrittenEntries.Sets.{EachHas, GoesOnReduced, changed-has, disposed_all-reduced, made_all-reduced, opened_all-reduced, passed_ended-reduced, put_back-reduced, removed_all-reduced, rewritten-reduced}

-- the data set of that name has the entry, where it reaches to its end
abbrev StaysIn : Name → Name → KeptEntry → Name → TableSet → Type 0
StaysIn set id entry name table = name ≡ set → ends_within table.set.length entry.kept ≡ true → find (λ (one : KeptEntry). same_name one.kept.id id) table.entries ≡ Some entry

module _ (set id : Name) (entry : KeptEntry) (room : 1 ≤ entry.kept.bytes) where
  abbrev Stays : Name → TableSet → Type 0
  Stays = StaysIn set id entry

  abbrev Hold : TablesModel → Type 0
  Hold tables = EachHas Stays tables.sets

  -- an empty data set doesn't reach there
  too-short : (length : ℕ) → length ≡ 0 → ends_within length entry.kept ≡ true → ⊥
  too-short length empty ends =
      let end : entry.kept.place + records_of entry.kept.bytes ≤ length = nat_le-true (entry.kept.place + records_of entry.kept.bytes) length ends in
      let some : 1 ≤ records_of entry.kept.bytes = takes-room entry.kept.bytes room in
      omega (arith, end, some, empty)

  -- so it is through changes by which no data set grows
  through : GoesOnReduced Stays
  through = record {
    cut = λ name table most shorter its same ends.
        find-filter (λ (one : KeptEntry). same_name one.kept.id id) (λ (one : KeptEntry). ends_within most one.kept) table.entries entry
        (its same (longer-ends most table.set.length entry shorter ends)) ends;
    marked = λ name table on its. its;
    stamped = λ name table stamp its. its;
    fresh = λ name table empty none same ends. absurd (too-short table.set.length empty ends);
  }

  -- where the entry is kept
  keeps-stays : (sets : Named TableSet) → KeepsEntry sets set id entry → EachHas Stays sets
  keeps-stays sets keeps name table at same ends =
      subst (λ (its : TableSet). find (λ (one : KeptEntry). same_name one.kept.id id) its.entries ≡ Some entry)
      (some-one keeps.table table (entry_at sets set) keeps.at (ap (entry_at sets) (sym same) ∙ at)) keeps.found

  -- the entry is kept where the data set reaches to its end
  stays-kept : (sets : Named TableSet) → EachHas Stays sets → reaches_to_end sets set entry.kept ≡ true → kept_at sets set id ≡ Some entry
  stays-kept sets each reaches =
      option-cases (entry_at sets set)
      (λ none. absurd (false≢true (sym (ap (λ (o : Option TableSet). option_map_or (λ table. ends_within table.set.length entry.kept) o false) none) ∙ reaches)))
      (λ table at.
      ap (λ (o : Option TableSet). option_map_or (λ table. find (λ (one : KeptEntry). same_name one.kept.id id) table.entries) o None) at
      ∙ each set table at refl (sym (ap (λ (o : Option TableSet). option_map_or (λ table. ends_within table.set.length entry.kept) o false) at) ∙ reaches))

  -- a further entry comes behind it
  added-stays : (to : Name) (further : KeptEntry) (sets : Named TableSet) → EachHas Stays sets → EachHas Stays (with_changed to (with_kept_entry further) sets)
  added-stays to further sets each =
      changed-has Stays to (with_kept_entry further) sets
      (λ name table its same ends.
      find-append (λ (one : KeptEntry). same_name one.kept.id id) table.entries (further ∷ [])
      ∙ ap (λ (o : Option KeptEntry). option_or o (find (λ (one : KeptEntry). same_name one.kept.id id) (further ∷ []))) (its same ends))
      each

  -- ---- what a run does

  by : {A : Type 0} (tables : TablesModel) (change : A → TablesModel) (given : Option A) → Hold tables → ((its : A) → given ≡ Some its → Hold (change its)) → Hold (option_map_or change given tables)
  by tables change None holds each = holds
  by tables change (Some its) holds each = each its refl

  disposed-stays : (row : RunRow) (owned : OwnedStep) (step : ℕ) (abnormal : Bool) (tables : TablesModel) → Hold tables → EachHas Stays (after_dispositions row owned step abnormal tables).sets
  disposed-stays row owned step abnormal tables holds =
      disposed_all-reduced Stays through (run_disposals row owned (own_made row owned step) (earlier_made tables row step) abnormal) (standing_of row tables) holds

  passed-stays : (row : RunRow) (tables : TablesModel) → Hold tables → Hold (after_passed_ended row tables)
  passed-stays row tables holds = passed_ended-reduced Stays through (has_passed row) tables.sets holds

  abnormal-stays : (row : RunRow) (place : Place) (tables : TablesModel) → Hold tables → Hold (after_abnormal row place tables)
  abnormal-stays row (Before step) tables holds = passed-stays row tables holds
  abnormal-stays row (Opened step) tables holds = passed-stays row tables holds
  abnormal-stays row (Within step writes) tables holds =
      by tables (λ owned. let done = after_dispositions row owned step true tables in after_passed_ended (record row { passed = done.passed }) (record tables { sets = done.sets })) (step_of_run row step) holds
      (λ owned found.
      passed-stays (record row { passed = (after_dispositions row owned step true tables).passed }) (record tables { sets = (after_dispositions row owned step true tables).sets })
      (disposed-stays row owned step true tables holds))

  back-stays : (row : RunRow) (owned : OwnedStep) (back : Back) (tables : TablesModel) → Hold tables → Hold (after_put_back row owned back tables)
  back-stays row owned back tables holds =
      put_back-reduced Stays through back.marks (output_names row.job.root owned) back.needed _ (removed_all-reduced Stays through back.removed tables.sets holds)

  restarted-stays : (row : RunRow) (owned : OwnedStep) (step initiator : ℕ) (checkpoint : Bool) (tables : TablesModel) → Hold tables → Hold (after_restarted row owned step initiator checkpoint tables)
  restarted-stays row owned step initiator true tables holds =
      by tables _ row.in_effect holds
      (λ (effect : EffectPoint) is.
      by tables _ (kept_at tables.sets effect.set effect.kept.id) holds
      (λ (its : KeptEntry) at. back-stays (record (row_on initiator row) { in_effect = Some (effect_restarted effect) }) owned (back_to_entry row owned step its.point) tables holds))
  restarted-stays row owned step initiator false tables holds =
      by tables _ (point_at row.points step) holds
      (λ (point : StartPoint) at. back-stays (record (row_on initiator row) { points = with_point (point_restarted point) row.points; in_effect = None }) owned (back_to_start row owned step point) tables holds)

  continued_at-stays : (row : RunRow) (owned : OwnedStep) (step : ℕ) (point : StartPoint) (at : Option Name) (tables : TablesModel) → Hold tables → Hold (after_continued_at row owned step point at tables)
  continued_at-stays row owned step point None tables holds = back-stays row owned (deferred_start row owned step point) tables holds
  continued_at-stays row owned step point (Some at) tables holds =
      by tables _ (kept_at tables.sets (syschk_name row.deck) at) holds (λ (its : KeptEntry) found. back-stays row owned (deferred_entry row step its.point) tables holds)

  chosen-stays : (row : RunRow) (initiator earlier step : ℕ) (at : Option Name) (tables : TablesModel) → Hold tables → Hold (after_chosen row initiator earlier step at tables)
  chosen-stays row initiator zero step at tables holds = holds
  chosen-stays row initiator (suc before) step at tables holds =
      by tables (λ earlier. after_continued row earlier step initiator at tables) (run_of tables (suc before)) holds
      (λ earlier is.
      by tables _ (step_of_run earlier step) holds
      (λ owned found.
      by tables _ (point_at earlier.points step) holds
      (λ (point : StartPoint) has. continued_at-stays (continued_row row earlier step point initiator tables.sets) owned step point at tables holds)))

  started-stays : (row : RunRow) (owned : OwnedStep) (step : ℕ) (items : ArrayVec Made) (tables : TablesModel) → Hold tables → Hold (after_started row owned step items.items tables)
  started-stays row owned step items tables holds =
      let placed = placed_in table_ways (standing_of row tables) row.job.root owned in
      made_all-reduced Stays through (stamp_of owned step) items.items placed _ (opened_all-reduced Stays through (stamp_of owned step) placed tables.sets holds)

-- ---- an event

module _ (layout : Layout) (now : Office) (are : AreKept layout now) (set id : Name) (entry : KeptEntry) (kept : kept_at now.tables.sets set id ≡ Some entry) where
  written : KeepsEntry now.tables.sets set entry.kept.id entry × IsWrittenEntry now set entry
  written = kept-so now set id entry are.written kept

  room : 1 ≤ entry.kept.bytes
  room = written.1.of_run.room

  keeps : KeepsEntry now.tables.sets set id entry
  keeps = record {
    table = written.0.table;
    at = written.0.at;
    found = sym (ap (λ (o : Option TableSet). option_map_or (λ table. find (λ (one : KeptEntry). same_name one.kept.id id) table.entries) o None) written.0.at) ∙ kept;
    ends = written.0.ends;
  }

  abbrev HoldsNow : TablesModel → Type 0
  HoldsNow = Hold set id entry room

  now-holds : HoldsNow now.tables
  now-holds = keeps-stays set id entry room now.tables.sets keeps

  -- whatever is given or found, it is changed so
  by-given : {A : Type 0} (change : A → TablesModel) (given : Option A) → ((its : A) → HoldsNow (change its)) → HoldsNow (option_map_or change given now.tables)
  by-given change given each = by set id entry room now.tables change given now-holds (λ its e. each its)

  -- lengths are committed, none of them below what is there
  by-commit : (job : ℕ) (lengths : List ℕ) (test : RunRow → Bool) (change : RunRow → OwnedStep → ℕ → TablesModel) → of_run now.tables job test ≡ true → ((row : RunRow) → test row ≡ true → lengths_follow now.tables row lengths ≡ true)
      → ((row : RunRow) (owned : OwnedStep) → EachHas (StaysIn set id entry) (committed (output_names row.job.root owned) lengths now.tables.sets) → HoldsNow (change row owned (step_now row))) → HoldsNow (by_run job now.tables (λ row. by_step (λ owned step. change row owned step) row now.tables))
  by-commit job lengths test change passes follow each =
      by set id entry room now.tables (λ row. by_step (λ owned step. change row owned step) row now.tables) (run_of now.tables job) now-holds
      (λ row e.
      let its : lengths_follow now.tables row lengths ≡ true = follow row (sym (ap (λ (o : Option RunRow). option_map_or test o false) e) ∙ passes) in
      by set id entry room now.tables (λ owned. change row owned (step_now row)) (step_of_run row (step_now row)) now-holds
      (λ owned found.
      each row owned
      (keeps-stays set id entry room (committed (output_names row.job.root owned) lengths now.tables.sets)
      (committed-keeps (output_names row.job.root owned) lengths now.tables.sets
      (sym (ap (λ (o : Option OwnedStep). option_map_or (λ owned. are_lengths now.tables.sets (output_names row.job.root owned) lengths) o false) found) ∙ its) set id entry keeps))))

  stays-behind : (event : Event) (deck : Option Job) → follows layout now.tables event deck ≡ true → HoldsNow (office_after (event, deck) now).tables
  stays-behind (Submitted job cards) deck may = by-given (λ deck. after_submitted job deck now.tables) deck (λ deck. now-holds)
  stays-behind (Selected job initiator earlier step at) deck may =
      by-given (λ row. after_chosen row initiator earlier step at now.tables) (run_of now.tables job) (λ row. chosen-stays set id entry room row initiator earlier step at now.tables now-holds)
  stays-behind (Started job step items) deck may =
      by-given (λ row. option_map_or (λ owned. after_started row owned step items.items now.tables) (step_of_run row step) now.tables) (run_of now.tables job)
      (λ row.
      by-given (λ owned. after_started row owned step items.items now.tables) (step_of_run row step)
      (λ owned. started-stays set id entry room row owned step items now.tables now-holds))
  stays-behind (Rewritten job taken writes lengths place image) deck may =
      by-commit job lengths.items (λ row. is_running row && lengths_follow now.tables row lengths.items && of_step row (is_rewrite now.tables place image row)) (λ row owned step. after_rewritten row owned step writes lengths.items now.tables) may
      (λ row passes. and-second (is_running row) (lengths_follow now.tables row lengths.items) (and-first (is_running row && lengths_follow now.tables row lengths.items) _ passes))
      (λ row owned each. rewritten-reduced (StaysIn set id entry) (through set id entry room) (name_with_role row.job.root owned is_updates) owned.owner (step_now row) _ each)
  stays-behind (Checkpointed job other taken writes lengths place bytes) deck may =
      by-commit job lengths.items (λ row. is_running row && lengths_follow now.tables row lengths.items && of_step row (is_checkpoint now.tables other lengths.items place bytes row))
      (λ row owned step. after_checkpointed row owned step (record { id = other; run = job; place = place; bytes = bytes }) taken writes lengths.items now.tables) may
      (λ row passes. and-second (is_running row) (lengths_follow now.tables row lengths.items) (and-first (is_running row && lengths_follow now.tables row lengths.items) _ passes))
      (λ row owned each. added-stays set id entry room (check_set row owned) _ _ each)
  stays-behind (StepEnded job step rc writes lengths) deck may =
      by-commit job lengths.items (λ row. is_running row && step_in (place_of row) == step && lengths_follow now.tables row lengths.items) (λ row owned step. after_step_ended row owned step rc writes lengths.items now.tables) may
      (λ row passes. and-second (is_running row && step_in (place_of row) == step) (lengths_follow now.tables row lengths.items) passes)
      (λ row owned each. disposed-stays set id entry room row owned (step_now row) false (after_commit row owned (step_now row) writes lengths.items now.tables) each)
  stays-behind (Restarted job initiator code checkpoint) deck may =
      by-given (λ row. by_step (λ owned step. after_restarted row owned step initiator checkpoint now.tables) row now.tables) (run_of now.tables job)
      (λ row.
      by-given (λ owned. after_restarted row owned (step_now row) initiator checkpoint now.tables) (step_of_run row (step_now row))
      (λ owned. restarted-stays set id entry room row owned (step_now row) initiator checkpoint now.tables now-holds))
  stays-behind (Held job code writes lengths) deck may =
      by-commit job lengths.items (λ row. (is_running row || is_in_state ReleasedRun row) && lengths_follow now.tables row lengths.items) (λ row owned step. after_held row owned step code writes lengths.items now.tables) may
      (λ row passes. and-second (is_running row || is_in_state ReleasedRun row) (lengths_follow now.tables row lengths.items) passes)
      (λ row owned each. each)
  stays-behind (Ended job Completed) deck may = by-given (λ row. after_passed_ended row now.tables) (run_of now.tables job) (λ row. passed-stays set id entry room row now.tables now-holds)
  stays-behind (Ended job (Coded code rule writes lengths)) deck may =
      by-commit job lengths.items (λ row. ended_follows now.tables row (Coded code rule writes lengths))
      (λ row owned step. after_abnormal (record row { place = Some (Within step writes) }) (Within step writes) (after_commit row owned step writes lengths.items now.tables)) may
      (λ row passes. and-second (is_running row || is_in_state ReleasedRun row) (lengths_follow now.tables row lengths.items) passes)
      (λ row owned each. abnormal-stays set id entry room (record row { place = Some (Within (step_now row) writes) }) (Within (step_now row) writes) (after_commit row owned (step_now row) writes lengths.items now.tables) each)
  stays-behind (Ended job (Allocation dd cause first second)) deck may =
      by-given (λ row. after_abnormal row (place_of row) now.tables) (run_of now.tables job) (λ row. abnormal-stays set id entry room row (place_of row) now.tables now-holds)
  -- the other events leave the data sets
  stays-behind _ deck may = by-given _ _ (λ row. now-holds)

  -- it stays behind an event behind which its data set reaches to its end
  pub entry-stays : (event : Event) (deck : Option Job) → IsNext layout now (event, deck) → reaches_to_end (office_after (event, deck) now).tables.sets set entry.kept ≡ true → kept_at (office_after (event, deck) now).tables.sets set id ≡ Some entry
  entry-stays event deck next reaches =
      stays-kept set id entry room (office_after (event, deck) now).tables.sets (stays-behind event deck (follows-of layout now event deck next.may)) reaches

-- so it does behind many
pub entry-stays-behind : (layout : Layout) (later : List Decked) (now : Office) (set id : Name) (entry : KeptEntry) → AreKept layout now → AreSoundFrom layout now later → kept_at now.tables.sets set id ≡ Some entry
    → IsUncut set entry.kept later now → kept_at (office_from later now).tables.sets set id ≡ Some entry
entry-stays-behind layout [] now set id entry are sound kept uncut = kept
entry-stays-behind layout (event ∷ later) now set id entry are sound kept uncut =
    let next : IsNext layout now (event.0, event.1) = record { may = sound.0.may; carried = sound.0.carried } in
    entry-stays-behind layout later (office_after event now) set id entry (next-kept layout now are event.0 event.1 next) sound.1
    (entry-stays layout now are set id entry kept event.0 event.1 next uncut.0) uncut.1

-- ---- a checkpoint is taken

pub checkpoint-taken : (layout : Layout) (now : Office) → AreKept layout now → (job taken writes place bytes : ℕ) (id : Name) (lengths : ArrayVec ℕ) (deck : Option Job) → IsNext layout now (Checkpointed job id taken writes lengths place bytes, deck)
    → HasTaken now (office_after (Checkpointed job id taken writes lengths place bytes, deck) now) (record { id = id; run = job; place = place; bytes = bytes }) taken writes lengths.items
checkpoint-taken layout now are job taken writes place bytes id lengths deck next =
    tested-run now.tables job (λ row. is_running row && lengths_follow now.tables row lengths.items && of_step row (is_checkpoint now.tables id lengths.items place bytes row)) (follows-of layout now (Checkpointed job id taken writes lengths place bytes) deck next.may)
    (λ row e passes.
    let early : (is_running row && lengths_follow now.tables row lengths.items) ≡ true = and-first (is_running row && lengths_follow now.tables row lengths.items) (of_step row (is_checkpoint now.tables id lengths.items place bytes row)) passes in
    let runs : is_running row ≡ true = and-first (is_running row) (lengths_follow now.tables row lengths.items) early in
    led-by layout now job row are.kept.events e (on-holds row.state (and-first (is_in_state On row) (is_within (place_of row)) runs))
    (λ leg holder.
    step-by now.tables row lengths.items (and-second (is_running row) (lengths_follow now.tables row lengths.items) early)
    (λ owned found fit.
    let check : is_checkpoint now.tables id lengths.items place bytes row owned ≡ true = sym (ap (λ (o : Option OwnedStep). option_map_or (is_checkpoint now.tables id lengths.items place bytes row) o false) found) ∙ and-second (is_running row && lengths_follow now.tables row lengths.items) (of_step row (is_checkpoint now.tables id lengths.items place bytes row)) passes in
    let running : IsRunning now job row leg owned (step_now row) (writes_in (place_of row)) = running-so layout now job row leg owned holder (and-second (is_in_state On row) (is_within (place_of row)) runs) found in
    let both : (commits now.tables.sets row writes lengths.items (its_start leg owned (step_now row)) && carries_taken taken writes (its_start leg owned (step_now row))) ≡ true =
    carried-of layout now job row leg owned (step_now row) (λ row start. commits now.tables.sets row writes lengths.items start && carries_taken taken writes start) are.kept.events holder refl found (and-second (nat_le 1 bytes) _ next.carried) in
    let commit : commits now.tables.sets row writes lengths.items (its_start leg owned (step_now row)) ≡ true = and-first (commits now.tables.sets row writes lengths.items (its_start leg owned (step_now row))) (carries_taken taken writes (its_start leg owned (step_now row))) both in
    let told : carries_taken taken writes (its_start leg owned (step_now row)) ≡ true = and-second (commits now.tables.sets row writes lengths.items (its_start leg owned (step_now row))) (carries_taken taken writes (its_start leg owned (step_now row))) both in
    let ready = are.ready.runs job row leg holder in
    let sets : Named TableSet = checked_sets layout now job row leg owned writes taken place bytes id lengths.items are.kept.events running commit told fit check ready in
    let its : KeptEntry = new_entry layout now job row leg owned writes taken place bytes id lengths.items are.kept.events running commit told fit check ready in
    let there : KeepsEntry sets (check_set row owned) id its = keeps_entry layout now job row leg owned writes taken place bytes id lengths.items are.kept.events running commit told fit check ready in
    changed-to (λ behind. HasTaken now behind (record { id = id; run = job; place = place; bytes = bytes }) taken writes lengths.items) now job row owned
    (λ row owned step. after_checkpointed row owned step (record { id = id; run = job; place = place; bytes = bytes }) taken writes lengths.items now.tables) e found
    (record {
      row = row;
      owned = owned;
      row_at = e;
      found = found;
      keeps = kept-entry sets (check_set row owned) id its there;
      reaches = ap (λ (o : Option TableSet). option_map_or (λ table. ends_within table.set.length its.kept) o false) there.at ∙ there.ends;
    }))))

-- ---- sound events

-- the entry of a checkpoint stays until a later event cuts it
pub sound-checkpoint : (layout : Layout) (front later : List Decked) (job taken writes place bytes : ℕ) (id : Name) (lengths : ArrayVec ℕ) (deck : Option Job) (row : RunRow) (owned : OwnedStep)
    → AreSound layout (front ++ (Checkpointed job id taken writes lengths place bytes, deck) ∷ later) → run_of (office front).tables job ≡ Some row → own_step row ≡ Some owned
    → IsUncut (check_set row owned) (record { id = id; run = job; place = place; bytes = bytes }) later (office_after (Checkpointed job id taken writes lengths place bytes, deck) (office front))
    → kept_at (office (front ++ (Checkpointed job id taken writes lengths place bytes, deck) ∷ later)).tables.sets (check_set row owned) id ≡ Some (taken_entry (office front) row owned (record { id = id; run = job; place = place; bytes = bytes }) taken writes lengths.items)
sound-checkpoint layout front later job taken writes place bytes id lengths deck row owned sound row_at found uncut =
    ap (λ (its : Office). kept_at its.tables.sets (check_set row owned) id) (office-behind front (event ∷ later))
    ∙ entry-stays-behind layout later (office_after event now) (check_set row owned) id (taken_entry now row owned kept taken writes lengths.items) (next-kept layout now are event.0 event.1 next) rest.1 (here its.row its.owned its.row_at its.found its.keeps) uncut
  where
    event : Decked
    event = (Checkpointed job id taken writes lengths place bytes, deck)

    kept : Kept
    kept = record { id = id; run = job; place = place; bytes = bytes }

    now : Office
    now = office front

    are : AreKept layout now
    are = prefix-kept layout front (event ∷ later) sound

    rest : AreSoundFrom layout now (event ∷ later)
    rest = sound-behind layout front (event ∷ later) sound

    next : IsNext layout now event
    next = rest.0

    its : HasTaken now (office_after event now) kept taken writes lengths.items
    its = checkpoint-taken layout now are job taken writes place bytes id lengths deck next

    here : (one : RunRow) (its_owned : OwnedStep) → run_of now.tables job ≡ Some one → own_step one ≡ Some its_owned → kept_at (office_after event now).tables.sets (check_set one its_owned) id ≡ Some (taken_entry now one its_owned kept taken writes lengths.items)
        → kept_at (office_after event now).tables.sets (check_set row owned) id ≡ Some (taken_entry now row owned kept taken writes lengths.items)
    here one its_owned one_at own_found keeps =
        let same : one ≡ row = some-one one row (run_of now.tables job) one_at row_at in
        let same_owned : its_owned ≡ owned = some-one its_owned owned (own_step row) (ap own_step (sym same) ∙ own_found) found in
        subst (λ (r : RunRow). kept_at (office_after event now).tables.sets (check_set r owned) id ≡ Some (taken_entry now r owned kept taken writes lengths.items)) same
        (subst (λ (o : OwnedStep). kept_at (office_after event now).tables.sets (check_set one o) id ≡ Some (taken_entry now one o kept taken writes lengths.items)) same_owned keeps)
