-- How many data sets there are behind sound events, and how often each has been rewritten.
use Rattle.std.proofs.Common.{◌≡◌, ◌≤◌, ◌+◌, ℕ, zero, suc, Bool, true, false, ◌&&◌, if◌then◌else◌, List, [], ◌∷◌, length, map, refl, ap, sym, subst, Option, Some, None, arith}
use Rattle.std.specs.Cmp.Lexicographic.{pointwise}
use Rattle.std.specs.Option.{option_map_or}
use Rattle.std.specs.Prelude.{◌==◌, nat_eq}
use Rattle.std.proofs.lemmas.Bool.{false≢true}
use Rattle.std.proofs.lemmas.List.Sums.{sum_by-cons}
use Rattle.arrayvec.specs.ArrayVec.{ArrayVec}
use Rattle.ckr_base.proofs.Bools.{and-first, and-second}
use Rattle.ckr_events.specs.declared.event.Event.{Event}
use Rattle.ckr_events.specs.declared.event.Event.TheVariants.{Checkpointed, Ended, Held, Restarted, Rewritten, Selected, Started, StepEnded, Submitted}
use Rattle.ckr_events.specs.declared.event.Ending.{Ending}
use Rattle.ckr_events.specs.declared.event.Ending.TheVariants.{Allocation, Coded, Completed}
use Rattle.ckr_events.specs.declared.event.Made.{Made}
use Rattle.ckr_events.specs.Jobs.{job_of}
use Rattle.ckr_jcl.specs.declared.deck.Job.{Job}
use Rattle.ckr_library.specs.declared.sets.Kept.{Kept}
use Rattle.ckr_library.specs.declared.sets.Stamp.{Stamp}
use Rattle.ckr_library.specs.NameMaps.{Name}
use Rattle.ckr_meaning.specs.Allotments.{DdAllotment, opened_all}
use Rattle.ckr_meaning.specs.EffectiveJob.{OwnedStep, flaws_in, placed_in, stamp_of}
use Rattle.ckr_meaning.specs.StepRun.{rewritten_stamp}
use Rattle.ckr_meaning.specs.declared.place.Place.{Place}
use Rattle.ckr_meaning.specs.declared.place.Place.TheVariants.{Before, Opened, Within}
use Rattle.ckr_points_library.specs.Commit.{output_names}
use Rattle.ckr_points.specs.declared.run.RunState.TheVariants.{On}
use Rattle.ckr_points.specs.Events.{AreSound, AreSoundFrom}
use Rattle.ckr_points.specs.Follows.{are_items, are_made_clear, follows, is_empty, is_in_state, made_dds, may_start, started_follows}
use Rattle.ckr_points.specs.Marks.{point_at, with_point, has_passed, without_passed}
use Rattle.ckr_points.specs.Office.{Office, no_office, office, office_after, office_from}
use Rattle.ckr_points.specs.Restart.{Back, Decked, after_abnormal, after_check_restart, after_continued, after_continued_at, after_ended, after_entry_continued, after_event, after_passed_ended, after_put_back, after_restarted, after_step_restart, back_to_entry, back_to_start, by_step, continued_row, deferred_entry, deferred_start, effect_restarted, kept_at, place_of, point_restarted, row_on, step_in, syschk_name}
use Rattle.ckr_points.specs.Rows.{RunRow, StartPoint, TablesModel, run_of, standing_of, step_of_run, table_ways}
use Rattle.ckr_points.specs.Tables.{after_checkpointed, after_commit, after_dispositions, after_held, after_rewritten, after_selected, after_started, after_step_ended, earlier_made, fresh_effect, is_checkpoints, is_updates, name_with_role, own_made, row_rewritten, run_disposals, table_rewritten}
use Rattle.ckr_volumes.specs.declared.layout.Layout.{Layout}
use Rattle.ckr_desk_refines.specs.Counts.{added_by, added_by_all}
use Rattle.ckr_desk_refines.proofs.Entries.Legs.{tables-behind}
use Rattle.ckr_desk_refines.proofs.Counts.Sets.{AreFew, few-committed, few-disposed_all, few-made_all, few-more, few-opened_all, few-passed_ended, few-put_back, few-with_changed}

-- the data sets of the tables
abbrev Few : ℕ → TablesModel → Type 0
Few most tables = AreFew most tables.sets

by : {A : Type 0} (most : ℕ) (tables : TablesModel) (change : A → TablesModel) (given : Option A) → Few most tables → ((its : A) → Few most (change its)) → Few most (option_map_or change given tables)
by most tables change None few more = few
by most tables change (Some its) few more = more its

by-run : (most : ℕ) (tables : TablesModel) (job : ℕ) (change : RunRow → TablesModel) → Few most tables → ((row : RunRow) → Few most (change row)) → Few most (option_map_or change (run_of tables job) tables)
by-run most tables job change few more = by most tables change (run_of tables job) few more

by-step : (most : ℕ) (tables : TablesModel) (job : ℕ) (change : RunRow → OwnedStep → ℕ → TablesModel) → Few most tables → ((row : RunRow) (owned : OwnedStep) (step : ℕ) → Few most (change row owned step))
    → Few most (option_map_or (λ row. by_step (λ owned step. change row owned step) row tables) (run_of tables job) tables)
by-step most tables job change few more =
    by-run most tables job (λ row. by_step (λ owned step. change row owned step) row tables) few
    (λ row. by most tables (λ owned. change row owned (step_in (place_of row))) (step_of_run row (step_in (place_of row))) few (λ owned. more row owned (step_in (place_of row))))

-- ---- the end of a step, and of a run

commit-few : (most : ℕ) (tables : TablesModel) (row : RunRow) (owned : OwnedStep) (step writes : ℕ) (lengths : List ℕ) → Few most tables → Few most (after_commit row owned step writes lengths tables)
commit-few most tables row owned step writes lengths few = few-committed most (output_names row.job.root owned) lengths tables.sets few

disposed-few : (most : ℕ) (tables : TablesModel) (row : RunRow) (owned : OwnedStep) (step : ℕ) (abnormal : Bool) → Few most tables → AreFew most (after_dispositions row owned step abnormal tables).sets
disposed-few most tables row owned step abnormal few = few-disposed_all most (run_disposals row owned (own_made row owned step) (earlier_made tables row step) abnormal) (standing_of row tables) few

step_ended-few : (most : ℕ) (tables : TablesModel) (row : RunRow) (owned : OwnedStep) (step rc writes : ℕ) (lengths : List ℕ) → Few most tables → Few most (after_step_ended row owned step rc writes lengths tables)
step_ended-few most tables row owned step rc writes lengths few =
    disposed-few most (after_commit row owned step writes lengths tables) row owned step false (commit-few most tables row owned step writes lengths few)

abnormal-few : (most : ℕ) (tables : TablesModel) (row : RunRow) (place : Place) → Few most tables → Few most (after_abnormal row place tables)
abnormal-few most tables row (Before step) few = few-passed_ended most (has_passed row) tables.sets few
abnormal-few most tables row (Opened step) few = few-passed_ended most (has_passed row) tables.sets few
abnormal-few most tables row (Within step writes) few =
    by most tables (λ owned. let done = after_dispositions row owned step true tables in after_passed_ended (record row { passed = done.passed }) (record tables { sets = done.sets })) (step_of_run row step) few
    (λ owned. few-passed_ended most (without_passed row.lost (after_dispositions row owned step true tables).passed) (after_dispositions row owned step true tables).sets (disposed-few most tables row owned step true few))

ended-few : (most : ℕ) (tables : TablesModel) (row : RunRow) (ending : Ending) → Few most tables → Few most (after_ended row ending tables)
ended-few most tables row Completed few = few-passed_ended most (has_passed row) tables.sets few
ended-few most tables row (Coded code rule writes lengths) few =
    by most tables
    (λ owned. after_abnormal (record row { place = Some (Within (step_in (place_of row)) writes) }) (Within (step_in (place_of row)) writes) (after_commit row owned (step_in (place_of row)) writes lengths.items tables))
    (step_of_run row (step_in (place_of row))) few
    (λ owned.
    abnormal-few most (after_commit row owned (step_in (place_of row)) writes lengths.items tables) (record row { place = Some (Within (step_in (place_of row)) writes) }) (Within (step_in (place_of row)) writes)
    (commit-few most tables row owned (step_in (place_of row)) writes lengths.items few))
ended-few most tables row (Allocation dd cause first second) few = abnormal-few most tables row (place_of row) few

-- ---- a checkpoint

taken-few : (most : ℕ) (tables : TablesModel) (row : RunRow) (owned : OwnedStep) (step : ℕ) (entry : Kept) (taken writes : ℕ) (lengths : List ℕ) → Few most tables → Few most (after_checkpointed row owned step entry taken writes lengths tables)
taken-few most tables row owned step entry taken writes lengths few =
    few-with_changed most most (name_with_role row.job.root owned is_checkpoints) _ _ (omega arith) (λ table its. its) (few-committed most (output_names row.job.root owned) lengths tables.sets few)

-- ---- a run that goes back

put_back-few : (most : ℕ) (tables : TablesModel) (row : RunRow) (owned : OwnedStep) (back : Back) → Few most tables → Few most (after_put_back row owned back tables)
put_back-few most tables row owned back few = few-put_back most back.marks (output_names row.job.root owned) back.needed back.removed tables.sets few

check_restart-few : (most : ℕ) (tables : TablesModel) (row : RunRow) (owned : OwnedStep) (step initiator : ℕ) → Few most tables → Few most (after_check_restart row owned step initiator tables)
check_restart-few most tables row owned step initiator few =
    by most tables
    (λ effect. option_map_or (λ entry. after_put_back (record (row_on initiator row) { in_effect = Some (effect_restarted effect) }) owned (back_to_entry row owned step entry.point) tables) (kept_at tables.sets effect.set effect.kept.id) tables)
    row.in_effect few
    (λ effect.
    by most tables (λ entry. after_put_back (record (row_on initiator row) { in_effect = Some (effect_restarted effect) }) owned (back_to_entry row owned step entry.point) tables) (kept_at tables.sets effect.set effect.kept.id) few
    (λ entry. put_back-few most tables (record (row_on initiator row) { in_effect = Some (effect_restarted effect) }) owned (back_to_entry row owned step entry.point) few))

step_restart-few : (most : ℕ) (tables : TablesModel) (row : RunRow) (owned : OwnedStep) (step initiator : ℕ) → Few most tables → Few most (after_step_restart row owned step initiator tables)
step_restart-few most tables row owned step initiator few =
    by most tables (λ point. after_put_back (record (row_on initiator row) { points = with_point (point_restarted point) row.points; in_effect = None }) owned (back_to_start row owned step point) tables) (point_at row.points step) few
    (λ point. put_back-few most tables (record (row_on initiator row) { points = with_point (point_restarted point) row.points; in_effect = None }) owned (back_to_start row owned step point) few)

restarted-few : (most : ℕ) (tables : TablesModel) (row : RunRow) (owned : OwnedStep) (step initiator : ℕ) (checkpoint : Bool) → Few most tables → Few most (after_restarted row owned step initiator checkpoint tables)
restarted-few most tables row owned step initiator true few = check_restart-few most tables row owned step initiator few
restarted-few most tables row owned step initiator false few = step_restart-few most tables row owned step initiator few

continued_at-few : (most : ℕ) (tables : TablesModel) (row : RunRow) (owned : OwnedStep) (step : ℕ) (point : StartPoint) (id : Option Name) → Few most tables → Few most (after_continued_at row owned step point id tables)
continued_at-few most tables row owned step point None few = put_back-few most tables row owned (deferred_start row owned step point) few
continued_at-few most tables row owned step point (Some id) few =
    by most tables (λ entry. after_entry_continued row owned step (syschk_name row.deck) entry tables) (kept_at tables.sets (syschk_name row.deck) id) few
    (λ entry. put_back-few most tables (record row { in_effect = Some (fresh_effect (syschk_name row.deck) entry.kept) }) owned (deferred_entry row step entry.point) few)

continued-few : (most : ℕ) (tables : TablesModel) (row earlier : RunRow) (step initiator : ℕ) (id : Option Name) → Few most tables → Few most (after_continued row earlier step initiator id tables)
continued-few most tables row earlier step initiator id few =
    by most tables (λ owned. option_map_or (λ point. after_continued_at (continued_row row earlier step point initiator tables.sets) owned step point id tables) (point_at earlier.points step) tables) (step_of_run earlier step) few
    (λ owned.
    by most tables (λ point. after_continued_at (continued_row row earlier step point initiator tables.sets) owned step point id tables) (point_at earlier.points step) few
    (λ point. continued_at-few most tables (continued_row row earlier step point initiator tables.sets) owned step point id few))

-- ---- a step that starts

-- the items are as many as the parts that the step makes
items-many : (numbers : List ℕ) (items : List Made) → pointwise nat_eq numbers (map (λ (item : Made). item.dd) items) ≡ true → length numbers ≡ length items
items-many [] [] are = refl
items-many [] (item ∷ items) are = absurd (false≢true are)
items-many (number ∷ numbers) [] are = absurd (false≢true are)
items-many (number ∷ numbers) (item ∷ items) are = ap suc (items-many numbers items (and-second (nat_eq number item.dd) _ are))

module _ (layout : Layout) (most : ℕ) (tables : TablesModel) (few : Few most tables) where
  started-few : (row : RunRow) (step : ℕ) (items : List Made) → started_follows layout tables step items row ≡ true
      → Few (most + length items) (option_map_or (λ owned. after_started row owned step items tables) (step_of_run row step) tables)
  started-few row step items starts = by_owned (step_of_run row step) (and-second (is_in_state On row) _ starts)
    where
      by_owned : (found : Option OwnedStep)
          → option_map_or (λ owned. let placed = placed_in table_ways (standing_of row tables) row.job.root owned in may_start step (place_of row) && is_empty (flaws_in placed) && are_items layout (stamp_of owned step) tables.sets placed items)
          found false ≡ true
          → Few (most + length items) (option_map_or (λ owned. after_started row owned step items tables) found tables)
      by_owned None passes = absurd (false≢true passes)
      by_owned (Some owned) passes =
          let placed : List DdAllotment = placed_in table_ways (standing_of row tables) row.job.root owned in
          let stamp : Stamp = stamp_of owned step in
          let are : are_items layout stamp tables.sets placed items ≡ true = and-second (may_start step (place_of row) && is_empty (flaws_in placed)) _ passes in
          let named : pointwise nat_eq (made_dds placed) (map (λ (item : Made). item.dd) items) ≡ true = and-first _ _ (and-first _ (are_made_clear layout stamp items placed tables.sets) are) in
          few-more (most + length (made_dds placed)) (most + length items) _ (omega (arith, items-many (made_dds placed) items named))
          (few-made_all most stamp items placed (opened_all table_ways stamp placed tables.sets) (omega arith) (few-opened_all most stamp placed tables.sets (omega arith) few))

  started-next : (job step : ℕ) (items : ArrayVec Made) (deck : Option Job) → follows layout tables (Started job step items) deck ≡ true → Few (most + suc (length items.items)) (after_event (Started job step items) deck tables)
  started-next job step items deck follow = by_row (run_of tables job) follow
    where
      by_row : (found : Option RunRow) → option_map_or (started_follows layout tables step items.items) found false ≡ true
          → Few (most + suc (length items.items)) (option_map_or (λ row. option_map_or (λ owned. after_started row owned step items.items tables) (step_of_run row step) tables) found tables)
      by_row None passes = absurd (false≢true passes)
      by_row (Some row) passes = few-more (most + length items.items) (most + suc (length items.items)) _ (omega arith) (started-few row step items.items passes)

  -- ---- a rewrite

  stamp-has : (owner step : ℕ) (stamp : Stamp) → stamp.rewrites ≤ most → (rewritten_stamp owner step stamp).rewrites ≤ most + 1
  stamp-has owner step stamp its = by_same (stamp.run == owner && stamp.step == step)
    where
      by_same : (same : Bool) → (if same then record stamp { rewrites = stamp.rewrites + 1 } else record { run = owner; step = step; rewrites = 1 }).rewrites ≤ most + 1
      by_same true = omega (arith, its)
      by_same false = omega arith

  rewritten-few : (row : RunRow) (owned : OwnedStep) (step writes : ℕ) (lengths : List ℕ) → Few (most + 1) (after_rewritten row owned step writes lengths tables)
  rewritten-few row owned step writes lengths =
      few-with_changed most (most + 1) (name_with_role row.job.root owned is_updates) (table_rewritten owned.owner step) _ (omega arith) (λ table its. stamp-has owned.owner step table.set.stamp its)
      (commit-few most tables (row_rewritten step row) owned step writes lengths few)

  -- ---- one more event

  more : Few (most + 1) tables
  more = few-more most (most + 1) tables.sets (omega arith) few

  next-few : (event : Event) (deck : Option Job) → follows layout tables event deck ≡ true → Few (most + added_by event) (after_event event deck tables)
  next-few (Submitted job cards) None follow = more
  next-few (Submitted job cards) (Some deck) follow = more
  next-few (Selected job initiator zero step id) deck follow = by-run (most + 1) tables job (λ row. after_selected row initiator tables) more (λ row. more)
  next-few (Selected job initiator (suc before) step id) deck follow =
      by-run (most + 1) tables job (λ row. option_map_or (λ earlier. after_continued row earlier step initiator id tables) (run_of tables (suc before)) tables) more
      (λ row. by-run (most + 1) tables (suc before) (λ earlier. after_continued row earlier step initiator id tables) more (λ earlier. continued-few (most + 1) tables row earlier step initiator id more))
  next-few (Started job step items) deck follow = started-next job step items deck follow
  next-few (Rewritten job taken writes lengths place image) deck follow =
      by-step (most + 1) tables job (λ row owned step. after_rewritten row owned step writes lengths.items tables) more (λ row owned step. rewritten-few row owned step writes lengths.items)
  next-few (Checkpointed job id taken writes lengths place bytes) deck follow =
      let entry : Kept = record { id = id; run = job; place = place; bytes = bytes } in
      by-step (most + 1) tables job (λ row owned step. after_checkpointed row owned step entry taken writes lengths.items tables) more (λ row owned step. taken-few (most + 1) tables row owned step entry taken writes lengths.items more)
  next-few (StepEnded job step rc writes lengths) deck follow =
      by-step (most + 1) tables job (λ row owned step. after_step_ended row owned step rc writes lengths.items tables) more (λ row owned step. step_ended-few (most + 1) tables row owned step rc writes lengths.items more)
  next-few (Restarted job initiator code checkpoint) deck follow =
      by-step (most + 1) tables job (λ row owned step. after_restarted row owned step initiator checkpoint tables) more (λ row owned step. restarted-few (most + 1) tables row owned step initiator checkpoint more)
  next-few (Held job code writes lengths) deck follow =
      by-step (most + 1) tables job (λ row owned step. after_held row owned step code writes lengths.items tables) more (λ row owned step. commit-few (most + 1) tables row owned step writes lengths.items more)
  next-few (Ended job ending) deck follow = by-run (most + 1) tables job (λ row. after_ended row ending tables) more (λ row. ended-few (most + 1) tables row ending more)
  next-few event deck follow = by-run (most + 1) tables (job_of event) _ more (λ row. more)

-- ---- all events

few-from : (layout : Layout) (events : List Decked) (now : Office) (most : ℕ) → AreSoundFrom layout now events → Few most now.tables → Few (most + added_by_all events) (office_from events now).tables
few-from layout [] now most are few = few-more most (most + added_by_all []) now.tables.sets (omega arith) few
few-from layout (event ∷ rest) now most are few =
    let behind : Few (most + added_by event.0) (office_after event now).tables =
    subst (Few (most + added_by event.0)) (sym (tables-behind now event.0 event.1)) (next-few layout most now.tables few event.0 event.1 (and-first (follows layout now.tables event.0 event.1) _ are.0.may)) in
    few-more (most + added_by event.0 + added_by_all rest) (most + added_by_all (event ∷ rest)) _ (omega (arith, sum_by-cons (λ (one : Decked). added_by one.0) event rest))
    (few-from layout rest (office_after event now) (most + added_by event.0) are.1 behind)

pub sound-few : (layout : Layout) (events : List Decked) → AreSound layout events → AreFew (added_by_all events) (office events).tables.sets
sound-few layout events are =
    few-more (0 + added_by_all events) (added_by_all events) _ (omega arith) (few-from layout events no_office 0 are (record { ordered = tt; many = omega arith; each = tt }))
