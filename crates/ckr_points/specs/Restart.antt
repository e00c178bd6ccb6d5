-- The tables after restarts and ends, and the fold over all events.
use Rattle.std.specs.Prelude.{ℕ, zero, suc, pred, nat_lt, Bool, true, false, not, List, [], ◌∷◌, ◌++◌, map, filter, find, take, drop, Option, None, Some}
use Rattle.std.specs.Option.{option_map_or, is_some}
use Rattle.ckr_events.specs.declared.event.Event.{Event}
use Rattle.ckr_events.specs.declared.event.Event.TheVariants.{Submitted, Selected, Denied, Started, Rewritten, Checkpointed, Cancelled, StepEnded, Restarted, Held, Released, Ended, Purged}
use Rattle.ckr_events.specs.declared.event.Ending.{Ending}
use Rattle.ckr_events.specs.declared.event.Ending.TheVariants.{Completed, Coded, Allocation}
use Rattle.ckr_jcl.specs.declared.deck.Job.{Job}
use Rattle.ckr_entry.specs.declared.point.Mark.{Mark}
use Rattle.ckr_library.specs.NameMaps.{Name, Named, same_name, entry_at}
use Rattle.ckr_meaning.specs.SetUses.SetNames.{library_name}
use Rattle.ckr_entry.specs.declared.point.Passed.{Passed}
use Rattle.ckr_meaning.specs.Dispositions.{passed_ended}
use Rattle.ckr_meaning.specs.EffectiveJob.{Effective, OwnedStep, owned_by, names_of, names_of_steps, names_of_job, is_among}
use Rattle.ckr_meaning.specs.JobRun.{StepCodes}
use Rattle.ckr_meaning.specs.declared.place.Place.{Place}
use Rattle.ckr_meaning.specs.declared.place.Place.TheVariants.{Before, Opened, Within}
use Rattle.ckr_points.specs.declared.run.RunState.TheVariants.{On, Released as ReleasedRun, Ended as EndedRun, Denied as DeniedRun, Purged as PurgedRun}
use Rattle.ckr_points.specs.Rows.{EntryPoint, KeptEntry, TableSet, StartPoint, EffectPoint, RunRow, TablesModel, no_tables, run_of, with_run, with_standing, step_of_run}
use Rattle.ckr_points_library.specs.Commit.{output_names}
use Rattle.ckr_points.specs.Marks.{mark_now, mark_at, marks_for, own_names, point_at, with_point, sysout_names, made_names, removed_all, put_back, lost_names, has_passed, deck_names}
use Rattle.ckr_points.specs.Tables.{after_submitted, after_selected, after_started, after_commit, after_rewritten, after_checkpointed, after_cancelled, after_step_ended, after_held, after_dispositions, own_made, fresh_effect}

-- the first entry of that identifier that a data set keeps
abbrev pub kept_at : Named TableSet → Name → Name → Option KeptEntry
kept_at sets set id =
    option_map_or (λ table. find (λ entry. same_name entry.kept.id id) table.entries) (entry_at sets set) None

-- the point to which a restart goes back: the step with its writes, and what it put back
pub record Back : Type 0 where
  pub place : Place
  pub count : ℕ
  pub marks : List Mark
  pub passed : List Passed
  pub removed : List Name
  pub needed : List Name

-- the data sets put back for a run
abbrev pub sets_back : RunRow → OwnedStep → Back → Named TableSet → Named TableSet
sets_back row owned back sets = put_back back.marks (output_names row.job.root owned) back.needed (removed_all back.removed sets)

-- the tables put back for a run, whose passed list is that of the point
abbrev pub after_put_back : RunRow → OwnedStep → Back → TablesModel → TablesModel
after_put_back row owned back tables =
    with_standing (record row { place = Some back.place; count = back.count })
    (record { sets = sets_back row owned back tables.sets; passed = back.passed }) tables

-- an automatic restart at the start of a step goes back so
abbrev pub back_to_start : RunRow → OwnedStep → ℕ → StartPoint → Back
back_to_start row owned step point = record {
  place = Opened step;
  count = point.count;
  marks = point.marks;
  passed = point.passed;
  removed = own_made row owned step;
  needed = names_of row.job.root owned;
}

-- an automatic restart at a checkpoint goes back so
abbrev pub back_to_entry : RunRow → OwnedStep → ℕ → EntryPoint → Back
back_to_entry row owned step point = record {
  place = Within step point.writes;
  count = point.count;
  marks = point.marks;
  passed = point.passed;
  removed = [];
  needed = names_of row.job.root owned;
}

abbrev pub point_restarted : StartPoint → StartPoint
point_restarted point = record point { restarts = suc point.restarts }

abbrev pub effect_restarted : EffectPoint → EffectPoint
effect_restarted effect = record effect { restarts = suc effect.restarts }

abbrev pub row_on : ℕ → RunRow → RunRow
row_on initiator row = record row { state = On; initiator = Some initiator; code = None }

-- after Restarted at the start of the step
abbrev pub after_step_restart : RunRow → OwnedStep → ℕ → ℕ → TablesModel → TablesModel
after_step_restart row owned step initiator tables =
    option_map_or
    (λ point.
    after_put_back (record (row_on initiator row) { points = with_point (point_restarted point) row.points; in_effect = None }) owned
    (back_to_start row owned step point) tables)
    (point_at row.points step) tables

-- after Restarted at the checkpoint in effect
abbrev pub after_check_restart : RunRow → OwnedStep → ℕ → ℕ → TablesModel → TablesModel
after_check_restart row owned step initiator tables =
    option_map_or
    (λ effect.
    option_map_or
    (λ entry.
    after_put_back (record (row_on initiator row) { in_effect = Some (effect_restarted effect) }) owned
    (back_to_entry row owned step entry.point) tables)
    (kept_at tables.sets effect.set effect.kept.id) tables)
    row.in_effect tables

abbrev pub after_restarted : RunRow → OwnedStep → ℕ → ℕ → Bool → TablesModel → TablesModel
after_restarted row owned step initiator true tables = after_check_restart row owned step initiator tables
after_restarted row owned step initiator false tables = after_step_restart row owned step initiator tables

-- the effective job of a run that is continued at a step: the earlier run's steps up to it, and its own later ones
abbrev pub spliced : Effective → ℕ → ℕ → Job → Effective
spliced earlier step run deck =
    record earlier { steps = take step earlier.steps ++ map (owned_by run deck) (drop step deck.steps) }

-- the step point that a continued run begins with: the earlier run's, with no restarts counted, and other names as the tables are
abbrev pub carried_point : Effective → Named TableSet → StartPoint → StartPoint
carried_point job sets point = record point {
  restarts = 0;
  marks = marks_for (λ name. option_map_or (λ mark. mark) (mark_at point.marks name) (mark_now sets name)) (names_of_job job);
}

-- the needed names of a deferred restart: those of the step and the later ones that have a mark
abbrev pub needed_names : Effective → ℕ → List Mark → List Name
needed_names job step marks = filter (λ name. is_some (mark_at marks name)) (names_of_steps job.root (drop (pred step) job.steps))

abbrev pub without_names : List Name → List Name → List Name
without_names gone names = filter (λ name. not (is_among gone name)) names

-- the name of SYSCHK's data set
abbrev pub syschk_name : Job → Name
syschk_name deck = option_map_or (λ dd. option_map_or (λ name. name) (library_name dd 0 0 []) []) deck.syschk []

-- the return codes of the steps before one
abbrev pub rcs_before : ℕ → StepCodes → StepCodes
rcs_before step rcs = filter (λ at. nat_lt at.0 step) rcs

-- the row of a run as it is continued at a step of an earlier one
abbrev pub continued_row : RunRow → RunRow → ℕ → StartPoint → ℕ → Named TableSet → RunRow
continued_row row earlier step point initiator sets =
    let job = spliced earlier.job step row.number row.deck in
    record (row_on initiator row) {
      job = job;
      earlier = earlier.number;
      earlier_step = step;
      rcs = rcs_before step earlier.rcs;
      points = carried_point job sets point ∷ [];
    }

-- a deferred restart at the start of a step goes back so
abbrev pub deferred_start : RunRow → OwnedStep → ℕ → StartPoint → Back
deferred_start row owned step point =
    let sysout = sysout_names row.job.root owned in
    record {
      place = Opened step;
      count = point.count;
      marks = point.marks;
      passed = point.passed;
      removed = made_names point.marks sysout;
      needed = without_names sysout (needed_names row.job step point.marks);
    }

-- a deferred restart at a checkpoint goes back so
abbrev pub deferred_entry : RunRow → ℕ → EntryPoint → Back
deferred_entry row step point = record {
  place = Within step point.writes;
  count = point.count;
  marks = point.marks;
  passed = point.passed;
  removed = [];
  needed = needed_names row.job step point.marks;
}

-- the tables put back for a run that continues another one: it loses the passed names of the point that no longer exist, or that neither its
-- own steps nor its deck name
abbrev pub after_taken_over : RunRow → OwnedStep → Back → TablesModel → TablesModel
after_taken_over row owned back tables =
    let named = own_names row ++ deck_names row.job.root row.number row.deck in
    after_put_back (record row { lost = lost_names back.marks named (sets_back row owned back tables.sets) back.passed }) owned back tables

-- after Selected of a run that is continued at the start of a step
abbrev pub after_start_continued : RunRow → OwnedStep → ℕ → StartPoint → TablesModel → TablesModel
after_start_continued row owned step point tables = after_taken_over row owned (deferred_start row owned step point) tables

-- after Selected of a run that is continued at a checkpoint
abbrev pub after_entry_continued : RunRow → OwnedStep → ℕ → Name → KeptEntry → TablesModel → TablesModel
after_entry_continued row owned step set entry tables =
    after_taken_over (record row { in_effect = Some (fresh_effect set entry.kept) }) owned (deferred_entry row step entry.point) tables

abbrev pub after_continued_at : RunRow → OwnedStep → ℕ → StartPoint → Option Name → TablesModel → TablesModel
after_continued_at row owned step point None tables = after_start_continued row owned step point tables
after_continued_at row owned step point (Some id) tables =
    let set = syschk_name row.deck in
    option_map_or (λ entry. after_entry_continued row owned step set entry tables) (kept_at tables.sets set id) tables

-- after Selected of a run with RESTART
abbrev pub after_continued : RunRow → RunRow → ℕ → ℕ → Option Name → TablesModel → TablesModel
after_continued row earlier step initiator id tables =
    option_map_or
    (λ owned.
    option_map_or
    (λ point. after_continued_at (continued_row row earlier step point initiator tables.sets) owned step point id tables)
    (point_at earlier.points step) tables)
    (step_of_run earlier step) tables

-- the tables with a run ended, its passed data sets too
abbrev pub after_passed_ended : RunRow → TablesModel → TablesModel
after_passed_ended row tables =
    with_run (record row { state = EndedRun; initiator = None; code = None; passed = []; lost = []; in_effect = None })
    (record tables { sets = passed_ended (has_passed row) tables.sets })

-- with the dispositions of the step, where the run was within it
abbrev pub after_abnormal : RunRow → Place → TablesModel → TablesModel
after_abnormal row (Before step) tables = after_passed_ended row tables
after_abnormal row (Opened step) tables = after_passed_ended row tables
after_abnormal row (Within step writes) tables =
    option_map_or
    (λ owned.
    let done = after_dispositions row owned step true tables in
    after_passed_ended (record row { passed = done.passed }) (record tables { sets = done.sets }))
    (step_of_run row step) tables

abbrev pub place_of : RunRow → Place
place_of row = option_map_or (λ place. place) row.place (Before 1)

-- the step that a place is before or in
abbrev pub step_in : Place → ℕ
step_in (Before step) = step
step_in (Opened step) = step
step_in (Within step writes) = step

-- the tables changed by what a run within a step does
abbrev pub by_step : (OwnedStep → ℕ → TablesModel) → RunRow → TablesModel → TablesModel
by_step change row tables =
    let step = step_in (place_of row) in
    option_map_or (λ owned. change owned step) (step_of_run row step) tables

-- after Ended with a code: committed, disposed, the passed data sets ended
abbrev pub after_coded : RunRow → ℕ → List ℕ → TablesModel → TablesModel
after_coded row writes lengths tables =
    by_step
    (λ owned step.
    after_abnormal (record row { place = Some (Within step writes) }) (Within step writes)
    (after_commit row owned step writes lengths tables))
    row tables

abbrev pub after_ended : RunRow → Ending → TablesModel → TablesModel
after_ended row Completed tables = after_passed_ended row tables
after_ended row (Coded code rule writes lengths) tables = after_coded row writes lengths.items tables
after_ended row (Allocation dd cause first second) tables = after_abnormal row (place_of row) tables

-- the tables changed by what a run does
abbrev pub by_run : ℕ → TablesModel → (RunRow → TablesModel) → TablesModel
by_run job tables change = option_map_or change (run_of tables job) tables

abbrev pub after_chosen : RunRow → ℕ → ℕ → ℕ → Option Name → TablesModel → TablesModel
after_chosen row initiator zero step id tables = after_selected row initiator tables
after_chosen row initiator (suc before) step id tables =
    by_run (suc before) tables (λ earlier. after_continued row earlier step initiator id tables)

-- the tables after an event; the deck is given for Submitted
abbrev pub after_event : Event → Option Job → TablesModel → TablesModel
after_event (Submitted job cards) deck tables = option_map_or (λ deck. after_submitted job deck tables) deck tables
after_event (Selected job initiator earlier step id) deck tables = by_run job tables (λ row. after_chosen row initiator earlier step id tables)
after_event (Denied job rule name) deck tables = by_run job tables (λ row. with_run (record row { state = DeniedRun }) tables)
after_event (Started job step items) deck tables =
    by_run job tables (λ row. option_map_or (λ owned. after_started row owned step items.items tables) (step_of_run row step) tables)
after_event (Rewritten job taken writes lengths place image) deck tables =
    by_run job tables (λ row. by_step (λ owned step. after_rewritten row owned step writes lengths.items tables) row tables)
after_event (Checkpointed job id taken writes lengths place bytes) deck tables =
    by_run job tables
    (λ row. by_step (λ owned step. after_checkpointed row owned step (record { id = id; run = job; place = place; bytes = bytes }) taken writes lengths.items tables) row tables)
after_event (Cancelled job) deck tables = by_run job tables (λ row. after_cancelled row tables)
after_event (StepEnded job step rc writes lengths) deck tables =
    by_run job tables (λ row. by_step (λ owned step. after_step_ended row owned step rc writes lengths.items tables) row tables)
after_event (Restarted job initiator code checkpoint) deck tables =
    by_run job tables (λ row. by_step (λ owned step. after_restarted row owned step initiator checkpoint tables) row tables)
after_event (Held job code writes lengths) deck tables =
    by_run job tables (λ row. by_step (λ owned step. after_held row owned step code writes lengths.items tables) row tables)
after_event (Released job) deck tables = by_run job tables (λ row. with_run (record row { state = ReleasedRun }) tables)
after_event (Ended job ending) deck tables = by_run job tables (λ row. after_ended row ending tables)
after_event (Purged job) deck tables = by_run job tables (λ row. with_run (record row { state = PurgedRun }) tables)

-- an event with the deck of its cards
abbrev pub Decked : Type 0
Decked = Event × Option Job

-- the tables after these events, from some tables on
abbrev pub tables_after : List Decked → TablesModel → TablesModel
tables_after [] tables = tables
tables_after (first ∷ rest) tables = tables_after rest (after_event first.0 first.1 tables)

-- the tables of all events
abbrev pub tables_of : List Decked → TablesModel
tables_of events = tables_after events no_tables
