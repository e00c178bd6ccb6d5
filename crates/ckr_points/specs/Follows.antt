-- Whether an event follows on the tables.
use Rattle.std.specs.Prelude.{ℕ, suc, pred, ◌+◌, ◌==◌, Bool, true, false, ◌&&◌, ◌||◌, not, nat_lt, nat_le, nat_eq, if◌then◌else◌, List, [], ◌∷◌, map, filter, flat_map, length, slice_get, sum_by, unwrap_or, Option, None, Some}
use Rattle.std.specs.Option.{option_map_or, option_eq, is_some, is_none}
use Rattle.std.specs.List.{list_all, list_any}
use Rattle.std.specs.Cmp.Lexicographic.{pointwise}
use Rattle.ckr_events.specs.declared.event.Event.{Event}
use Rattle.ckr_events.specs.declared.event.Event.TheVariants.{Submitted, Selected, Denied, Started, Rewritten, Checkpointed, Cancelled, StepEnded, Restarted, Held, Released, Ended, Purged}
use Rattle.ckr_events.specs.declared.event.Ending.{Ending}
use Rattle.ckr_events.specs.declared.event.Ending.TheVariants.{Completed, Coded, Allocation}
use Rattle.ckr_events.specs.declared.event.Made.{Made}
use Rattle.ckr_jcl.specs.declared.deck.Job.{Job}
use Rattle.ckr_jcl.specs.declared.deck.Kind.{Kind}
use Rattle.ckr_jcl.specs.declared.deck.Kind.TheVariants.{Copy, Select, Merge, Master, Update, Print, Br14}
use Rattle.ckr_jcl.specs.declared.deck.Restart.{Restart}
use Rattle.ckr_library.specs.Catalog.{records_of}
use Rattle.ckr_library.specs.declared.sets.DataSet.{DataSet}
use Rattle.ckr_library.specs.declared.sets.Stamp.{Stamp}
use Rattle.ckr_library.specs.NameMaps.{Name, Named, same_name, entry_at}
use Rattle.ckr_meaning.specs.Allotments.{AllotmentModel, found, made, refused, DdAllotment, is_made}
use Rattle.ckr_meaning.specs.EffectiveJob.{OwnedStep, placed_in, flaws_in, stamp_of}
use Rattle.ckr_meaning.specs.SetUses.Uses.{uses_of, holds}
use Rattle.ckr_meaning.specs.declared.place.Place.{Place}
use Rattle.ckr_meaning.specs.declared.place.Place.TheVariants.{Before, Opened, Within}
use Rattle.ckr_volumes.specs.declared.layout.Layout.{Layout}
use Rattle.ckr_volumes.specs.Places.{stretches_of}
use Rattle.ckr_volumes.specs.Layouts.{all_apart, is_inside, lie_apart, sums_up}
use Rattle.ckr_points.specs.declared.run.RunState.{RunState}
use Rattle.ckr_points.specs.declared.run.RunState.TheVariants.{Queued, On, Held as HeldRun, Released as ReleasedRun, Ended as EndedRun, Denied as DeniedRun, Purged as PurgedRun}
use Rattle.ckr_points.specs.Rows.{KeptEntry, TableSet, RunRow, TablesModel, run_of, standing_of, step_of_run, table_ways}
use Rattle.ckr_points.specs.Tables.{part_of, parts_from, fresh_table, made_table, name_with_role, is_checkpoints, is_updates}
use Rattle.ckr_points.specs.RuleCases.{Wanted, was_selected, is_ended, is_same_step, stale_denial}
use Rattle.ckr_points_library.specs.Commit.{output_names}
use Rattle.ckr_points.specs.Marks.{point_at}
use Rattle.ckr_points.specs.Office.{is_holder}
use Rattle.ckr_points.specs.Restart.{place_of, step_in, kept_at, syschk_name}

abbrev pub state_number : RunState → ℕ
state_number Queued = 1
state_number On = 2
state_number HeldRun = 3
state_number ReleasedRun = 4
state_number EndedRun = 5
state_number DeniedRun = 6
state_number PurgedRun = 7

abbrev pub is_in_state : RunState → RunRow → Bool
is_in_state state row = state_number row.state == state_number state

abbrev pub is_within : Place → Bool
is_within (Before step) = false
is_within (Opened step) = false
is_within (Within step writes) = true

-- on an initiator, and within a step
abbrev pub is_running : RunRow → Bool
is_running row = is_in_state On row && is_within (place_of row)

-- one of the header's initiators, with no run on it
abbrev pub is_free : Layout → TablesModel → ℕ → Bool
is_free layout tables initiator =
    nat_le 1 initiator && nat_le initiator layout.initiators
    && list_all (λ row. not (option_eq nat_eq row.initiator (Some initiator))) tables.runs

-- no uses of a selected run that isn't ended hold against those of the deck
abbrev pub may_hold : TablesModel → RunRow → Bool
may_hold tables row =
    list_all (λ other. not (is_holder other.state && holds (uses_of row.number row.deck) (uses_of other.number other.deck))) tables.runs

abbrev pub is_point_of : ℕ → ℕ → KeptEntry → Bool
is_point_of run step entry = entry.point.run == run && entry.point.step == step

-- a deferred restart by an earlier run: none of the rules D5 to D10 holds
abbrev pub may_continue : TablesModel → RunRow → RunRow → Wanted → Bool
may_continue tables row earlier wanted =
    was_selected earlier && same_name earlier.deck.name row.deck.name && is_ended earlier.state
    && is_some (point_at earlier.points wanted.number)
    && option_map_or (is_same_step earlier wanted) wanted.step false
    && is_none (stale_denial row wanted tables)
    && option_map_or (is_point_of earlier.number wanted.number) wanted.entry (not wanted.checkpoint)

abbrev pub same_restart : Restart → ℕ → Option Name → Bool
same_restart restart step id = restart.step == step && option_eq same_name restart.id id

abbrev pub may_restart : TablesModel → RunRow → Restart → ℕ → ℕ → Option Name → Bool
may_restart tables row restart earlier step id =
    same_restart restart step id
    && option_map_or
    (λ other.
    may_continue tables row other (record {
      number = step;
      checkpoint = is_some id;
      entry = option_map_or (λ text. kept_at tables.sets (syschk_name row.deck) text) id None;
      earlier = Some other;
      step = slice_get row.deck.steps (pred step);
    }))
    (run_of tables earlier) false

abbrev pub selected_follows : Layout → TablesModel → ℕ → ℕ → ℕ → Option Name → RunRow → Bool
selected_follows layout tables initiator earlier step id row =
    is_in_state Queued row && is_free layout tables initiator && may_hold tables row
    && option_map_or (λ restart. may_restart tables row restart earlier step id) row.deck.restart
    (earlier == 0 && step == 0 && is_none id)

-- the lengths: one for each output of the step, within the space, and not less than what is committed
abbrev pub are_lengths : Named TableSet → List Name → List ℕ → Bool
are_lengths sets [] [] = true
are_lengths sets [] (now ∷ lengths) = false
are_lengths sets (name ∷ names) [] = false
are_lengths sets (name ∷ names) (now ∷ lengths) =
    option_map_or (λ table. nat_le table.set.length now && nat_le now table.set.space) (entry_at sets name) false
    && are_lengths sets names lengths

abbrev pub lengths_follow : TablesModel → RunRow → List ℕ → Bool
lengths_follow tables row lengths =
    option_map_or (λ owned. are_lengths tables.sets (output_names row.job.root owned) lengths) (step_of_run row (step_in (place_of row))) false

-- ---- what a step makes

abbrev pub items_of : ℕ → List Made → List Made
items_of dd items = filter (λ item. item.dd == dd) items

-- whether a data set stands in a layout: each of its extents inside its volume, apart from the others, all of them its space
abbrev pub stands_in : Layout → DataSet → Bool
stands_in layout set =
    list_all (λ part. nat_lt part.volume (length layout.volumes.items)) set.parts.items
    && list_all (is_inside layout.volumes.items set.lrecl) (stretches_of set)
    && all_apart set.lrecl (stretches_of set)
    && list_all sums_up set.parts.items
    && sum_by (λ part. part.records) set.parts.items == set.space
    && nat_le set.length set.space
    && nat_le 1 set.lrecl && nat_le set.lrecl 256
    && nat_le 1 set.space && nat_le set.space 1000000

-- whether it lies apart from each of these data sets
abbrev pub lies_clear : Named TableSet → DataSet → Bool
lies_clear sets set = list_all (λ entry. lie_apart set entry.1.set) sets

-- a data set that a step makes stands in the layout, apart from those that were there and those made before it
abbrev pub is_made_clear : Layout → Stamp → List Made → DdAllotment → AllotmentModel → Named TableSet → Bool
is_made_clear layout stamp items placed found sets = true
is_made_clear layout stamp items placed made sets =
    let set = (fresh_table stamp placed (parts_from placed.number items)).set in
    stands_in layout set && lies_clear sets set
is_made_clear layout stamp items placed (refused flaw) sets = true

abbrev pub are_made_clear : Layout → Stamp → List Made → List DdAllotment → Named TableSet → Bool
are_made_clear layout stamp items [] sets = true
are_made_clear layout stamp items (placed ∷ rest) sets =
    is_made_clear layout stamp items placed placed.allotment sets
    && are_made_clear layout stamp items rest (made_table stamp items placed placed.allotment sets)

-- the DDs that the items name: those that the step makes, once for each part
abbrev pub part_numbers : ℕ → List Name → List ℕ
part_numbers dd [] = dd ∷ []
part_numbers dd (serial ∷ []) = dd ∷ []
part_numbers dd (serial ∷ next ∷ rest) = dd ∷ part_numbers dd (next ∷ rest)

abbrev pub made_dds : List DdAllotment → List ℕ
made_dds placed = flat_map (λ one. if is_made one.allotment then part_numbers one.number one.dd.volumes.items else []) placed

-- the extents of each part sum to the space that SPACE gives it
abbrev pub is_part_whole : List DdAllotment → Made → Bool
is_part_whole placed item =
    list_any (λ one. one.number == item.dd && (part_of item).records == unwrap_or one.dd.space 0) placed

-- the items are those of the DDs that the step makes, in their order, and what they make is clear
abbrev pub are_items : Layout → Stamp → Named TableSet → List DdAllotment → List Made → Bool
are_items layout stamp sets placed items =
    pointwise nat_eq (made_dds placed) (map (λ item. item.dd) items)
    && list_all (is_part_whole placed) items
    && are_made_clear layout stamp items placed sets

abbrev pub is_empty : {A : Type 0} → List A → Bool
is_empty [] = true
is_empty (first ∷ rest) = false

-- before the step, or opened for it by a restart; the tests of a step aren't looked at here
abbrev pub may_start : ℕ → Place → Bool
may_start step (Before number) = number == step
may_start step (Opened number) = number == step
may_start step (Within number writes) = false

abbrev pub started_follows : Layout → TablesModel → ℕ → List Made → RunRow → Bool
started_follows layout tables step items row =
    is_in_state On row
    && option_map_or
    (λ owned.
    let placed = placed_in table_ways (standing_of row tables) row.job.root owned in
    may_start step (place_of row) && is_empty (flaws_in placed)
    && are_items layout (stamp_of owned step) tables.sets placed items)
    (step_of_run row step) false

abbrev pub is_update : Kind → Bool
is_update Copy = false
is_update Select = false
is_update Merge = false
is_update Master = false
is_update Update = true
is_update Print = false
is_update Br14 = false

abbrev pub own_step : RunRow → Option OwnedStep
own_step row = step_of_run row (step_in (place_of row))

-- below MASTER's length, with MASTER's record length
abbrev pub is_rewrite : TablesModel → ℕ → List ℕ → RunRow → OwnedStep → Bool
is_rewrite tables place image row owned =
    is_update owned.step.program
    && option_map_or (λ table. nat_lt place table.set.length && length image == table.set.lrecl)
    (entry_at tables.sets (name_with_role row.job.root owned is_updates)) false

abbrev pub is_length_of : Name → ℕ → List Name → List ℕ → Bool
is_length_of name most [] lengths = false
is_length_of name most (first ∷ names) [] = false
is_length_of name most (first ∷ names) (now ∷ lengths) = if same_name first name then now == most else is_length_of name most names lengths

-- at the committed length of the checkpoint data set, which doesn't keep the identifier
abbrev pub is_checkpoint : TablesModel → Name → List ℕ → ℕ → ℕ → RunRow → OwnedStep → Bool
is_checkpoint tables id lengths place bytes row owned =
    let set = name_with_role row.job.root owned is_checkpoints in
    option_map_or (λ table. place == table.set.length && is_none (kept_at tables.sets set id)) (entry_at tables.sets set) false
    && is_length_of set (place + records_of bytes) (output_names row.job.root owned) lengths

-- fewer than three restarts at the point
abbrev pub may_restart_again : Bool → RunRow → Bool
may_restart_again true row = option_map_or (λ effect. nat_lt effect.restarts 3) row.in_effect false
may_restart_again false row = option_map_or (λ point. nat_lt point.restarts 3) (point_at row.points (step_in (place_of row))) false

abbrev pub ended_follows : TablesModel → RunRow → Ending → Bool
ended_follows tables row Completed = is_in_state On row && not (is_within (place_of row)) && is_none (own_step row)
ended_follows tables row (Coded code rule writes lengths) =
    (is_running row || is_in_state ReleasedRun row) && lengths_follow tables row lengths.items
ended_follows tables row (Allocation dd cause first second) =
    is_in_state On row && option_map_or (λ owned. nat_le 1 dd && nat_le dd (length owned.step.dds)) (own_step row) false

abbrev pub of_run : TablesModel → ℕ → (RunRow → Bool) → Bool
of_run tables job test = option_map_or test (run_of tables job) false

abbrev pub of_step : RunRow → (OwnedStep → Bool) → Bool
of_step row test = option_map_or test (own_step row) false

-- whether an event follows; the deck is given for Submitted where its cards are one
abbrev pub follows : Layout → TablesModel → Event → Option Job → Bool
follows layout tables (Submitted job cards) deck = job == suc (length tables.runs) && not (is_empty cards) && is_some deck
follows layout tables (Selected job initiator earlier step id) deck = of_run tables job (selected_follows layout tables initiator earlier step id)
follows layout tables (Denied job rule name) deck = of_run tables job (λ row. is_in_state Queued row && is_some row.deck.restart)
follows layout tables (Started job step items) deck = of_run tables job (started_follows layout tables step items.items)
follows layout tables (Rewritten job taken writes lengths place image) deck =
    of_run tables job (λ row. is_running row && lengths_follow tables row lengths.items && of_step row (is_rewrite tables place image row))
follows layout tables (Checkpointed job id taken writes lengths place bytes) deck =
    of_run tables job (λ row. is_running row && lengths_follow tables row lengths.items && of_step row (is_checkpoint tables id lengths.items place bytes row))
follows layout tables (Cancelled job) deck = of_run tables job is_running
follows layout tables (StepEnded job step rc writes lengths) deck =
    of_run tables job (λ row. is_running row && step_in (place_of row) == step && lengths_follow tables row lengths.items)
follows layout tables (Restarted job initiator code checkpoint) deck =
    of_run tables job
    (λ row.
    (is_running row && option_eq nat_eq row.initiator (Some initiator) || is_in_state ReleasedRun row && is_free layout tables initiator)
    && may_restart_again checkpoint row)
follows layout tables (Held job code writes lengths) deck =
    of_run tables job (λ row. (is_running row || is_in_state ReleasedRun row) && lengths_follow tables row lengths.items)
follows layout tables (Released job) deck = of_run tables job (is_in_state HeldRun)
follows layout tables (Ended job ending) deck = of_run tables job (λ row. ended_follows tables row ending)
follows layout tables (Purged job) deck = of_run tables job (is_in_state Queued)
