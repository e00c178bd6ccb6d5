-- The tables in code go on by an event as the tables do.
use Rattle.std.proofs.Common.{◌≡◌, ℕ, zero, suc, ◌+◌, ◌==◌, ◌<◌, ◌≤◌, ◌&&◌, ◌⊎◌, inl, inr, Bool, true, false, ◌||◌, not, IsSome, IsTrue, nat_eq, List, [], ◌∷◌, ◌++◌, find, length, map, slice_get, slice_set, refl, ap, sym, ◌∙◌, subst, arith, Some, None, Option}
use Rattle.std.specs.Option.{option_map, option_map_or, option_and_then, option_eq, is_none, is_some}
use Rattle.std.specs.List.{list_all}
use Rattle.std.proofs.lemmas.Bool.{false≢true, not-true}
use Rattle.std.proofs.lemmas.Option.{same_Some, slice_get-map, slice_get_within}
use Rattle.std.proofs.Math.ListN.{length-set}
use Rattle.std.proofs.lemmas.Bool.{and_from}
use Rattle.ckr_base.specs.RoomyLists.{Roomy}
use Rattle.ckr_base.proofs.Bools.{T-from-true, and-first, and-second}
use Rattle.ckr_base.proofs.Sequences.{set-same}
use Rattle.std.proofs.lemmas.List.{map-set}
use Rattle.ckr_base.proofs.Numbers.{equal-itself, suc-same}
use Rattle.ckr_base.proofs.Options.{some-not-none}
use Rattle.ckr_uses.specs.Uses.{are_distinct}
use Rattle.ckr_events.specs.Jobs.{job_of}
use Rattle.ckr_events.specs.declared.event.Event.{Event}
use Rattle.ckr_events.specs.declared.event.Event.TheVariants.{Submitted, Selected, Denied, Started, Rewritten, Checkpointed, Cancelled, StepEnded, Ended, Purged}
use Rattle.ckr_events.specs.declared.event.Ending.{Ending}
use Rattle.ckr_events.specs.declared.event.Ending.TheVariants.{Completed, Coded, Allocation}
use Rattle.ckr_entry.specs.declared.point.Mark.{Mark}
use Rattle.ckr_uses.specs.SetNames.{origin_name, run_name}
use Rattle.ckr_jcl.specs.declared.deck.Dd.{Dd}
use Rattle.ckr_jcl.specs.declared.deck.Job.{Job}
use Rattle.ckr_jcl.specs.declared.deck.Origin.{Origin}
use Rattle.ckr_jcl.specs.declared.deck.Origin.TheVariants.{InStream, Named as NamedOrigin, Temporary, Unnamed, Sysout, Dummy}
use Rattle.ckr_jcl.specs.declared.deck.Step.{Step}
use Rattle.ckr_library.specs.Catalog.{Catalog, Holding, records_of}
use Rattle.ckr_library.specs.NameMaps.{EachEntry, Name, Named, are_named_in_order, entry_at, same_name}
use Rattle.ckr_library.proofs.Named.{each-at, name-itself}
use Rattle.ckr_points_tables.proofs.NamedViews.{at-viewed}
use Rattle.ckr_points_tables.proofs.Checkpoints.{IsUnkept, keeps-new, still-seen, unkept}
use Rattle.ckr_points_runs.proofs.CheckpointNames.{role-named}
use Rattle.ckr_meaning.specs.EffectiveJob.{HasDistinctNames, OwnedStep, name_of, names_of, step_at}
use Rattle.ckr_volumes.specs.declared.layout.Layout.{Layout}
use Rattle.ckr_points.specs.declared.run.Run.{Run}
use Rattle.ckr_points.specs.declared.run.RunState.TheVariants.{Queued}
use Rattle.ckr_points_runs.specs.declared.run_table.RunTable.{RunTable}
use Rattle.ckr_points_runs.specs.declared.spare.Spare.{Spare}
use Rattle.ckr_points_runs.specs.RunChange.{Going, going, changed, check_writing, committed_by, desk_with, earlier_for, holding_kit, kept_by, place_now, table_kit, written_after}
use Rattle.ckr_points_runs.specs.MadeNames.{points_in}
use Rattle.ckr_points_runs.specs.StepEnd.{HasLengths, MayRewriteIn}
use Rattle.ckr_points.specs.Follows.{ended_follows, follows, is_checkpoint, is_length_of, is_rewrite, is_update, of_step, may_hold, may_restart, is_free, is_in_state, is_running, lengths_follow, of_run, selected_follows, started_follows}
use Rattle.ckr_points_tables.specs.Invariant.{AreKept, HasKeptRoom, HasRoom, HasRoomIn, HasRoomUnder, IsRun, IsWide, MayCount, MayFollow, initiator_at, is_run_change, entries_at, put_at, room_at}
use Rattle.ckr_points_runs.specs.PutBack.{IsFilled}
use Rattle.ckr_points_runs.specs.Checkpoint.{HasRoomNow, MayKeep, checkpoint_name}
use Rattle.ckr_points_runs.specs.declared.run_table.WrittenEntry.{WrittenEntry}
use Rattle.ckr_points_runs.specs.Needs.{MayChange}
use Rattle.ckr_points.specs.Restart.{after_event, kept_at, place_of, step_in}
use Rattle.ckr_points_runs.specs.Rewrite.{HasFewRewrites, MayRestamp, has_master, has_set, master_dd, master_name}
use Rattle.ckr_points.specs.Rows.{RunRow, TableSet, TablesModel, run_of, with_row}
use Rattle.ckr_points.specs.Tables.{is_checkpoints, name_with_role}
use Rattle.ckr_points_library.specs.Commit.{output_names}
use Rattle.ckr_points_runs.specs.RunJobs.{IsFitting, effective}
use Rattle.ckr_points_runs.proofs.RunJobs.{step-all}
use Rattle.ckr_points_tables.specs.View.{RoomyTables, TablesRoom, Writings, room_of, row_of, rows_of, seen_under, table_in, next_of}
use Rattle.ckr_points_runs.specs.View.{RunTableView, facts_of, row_with, written_of}
use Rattle.ckr_points_runs.specs.RunJobs.{has_few_dds}
use Rattle.ckr_points_tables.proofs.RunChanges.{MakesSameBy, event_in}
use Rattle.ckr_points_tables.proofs.Follows.{lengths_fit, started-makes}
use Rattle.ckr_points_tables.proofs.Initiators.{index_changed}
use Rattle.ckr_points_tables.proofs.MadeNames.{earlier-same, points-seen, row_points}
use Rattle.ckr_points_tables.proofs.Runs.{at_false, facts-rows, length-rows, rows-at, rows-set, run-stays, runs-at, runs-set}
use Rattle.ckr_points_tables.proofs.RunIdentity.{IsSelecting, Stays, stays}
use Rattle.ckr_points_runs.proofs.Steps.{few_of}
use Rattle.ckr_points_tables.proofs.EachSet.{MayMakeBy}
use Rattle.ckr_points_tables.proofs.RecordWidths.{changed-filled, changed-wide}
use Rattle.ckr_points_tables.proofs.SetViews.{Keeps, KeepsIn, changed_seen, going_viewed, table_view}

-- ---- an event that follows is of a run that is there

of_run-there : (tables : TablesModel) (job : ℕ) (test : RunRow → Bool) → of_run tables job test ≡ true → (row : RunRow) × (run_of tables job ≡ Some row) × (test row ≡ true)
of_run-there tables job test e = by (run_of tables job) refl e
  where
    by : (found : Option RunRow) → run_of tables job ≡ found → option_map_or test found false ≡ true → (row : RunRow) × (run_of tables job ≡ Some row) × (test row ≡ true)
    by None is e = absurd (false≢true e)
    by (Some row) is e = (row, is, e)

-- what the event has of its row
abbrev pub RowFollows : Layout → TablesModel → Event → RunRow → Type 0
RowFollows layout tables (Selected job initiator earlier step id) row = selected_follows layout tables initiator earlier step id row ≡ true
RowFollows layout tables (Started job step items) row = started_follows layout tables step items.items row ≡ true
RowFollows layout tables (Rewritten job taken writes lengths place image) row = (is_running row && lengths_follow tables row lengths.items && of_step row (is_rewrite tables place image row)) ≡ true
RowFollows layout tables (Checkpointed job id taken writes lengths place bytes) row =
    (is_running row && lengths_follow tables row lengths.items && of_step row (is_checkpoint tables id lengths.items place bytes row)) ≡ true
RowFollows layout tables (StepEnded job step rc writes lengths) row = (is_running row && step_in (place_of row) == step && lengths_follow tables row lengths.items) ≡ true
RowFollows layout tables (Ended job ending) row = ended_follows tables row ending ≡ true
RowFollows layout tables _ row = Unit {0}

abbrev Followed : Layout → TablesModel → Event → Type 0
Followed layout tables event = (row : RunRow) × (run_of tables (job_of event) ≡ Some row) × RowFollows layout tables event row

followed : (layout : Layout) (tables : TablesModel) (event : Event) (deck : Option Job) → is_run_change event ≡ true → follows layout tables event deck ≡ true → Followed layout tables event
followed layout tables (Selected job initiator earlier step id) deck change e = of_run-there tables job (selected_follows layout tables initiator earlier step id) e
followed layout tables (Denied job rule name) deck change e = let there = of_run-there tables job (λ row. is_in_state Queued row && is_some row.deck.restart) e in (there.0, there.1, tt)
followed layout tables (Started job step items) deck change e = of_run-there tables job (started_follows layout tables step items.items) e
followed layout tables (Rewritten job taken writes lengths place image) deck change e = of_run-there tables job (λ row. is_running row && lengths_follow tables row lengths.items && of_step row (is_rewrite tables place image row)) e
followed layout tables (Checkpointed job id taken writes lengths place bytes) deck change e =
    of_run-there tables job (λ row. is_running row && lengths_follow tables row lengths.items && of_step row (is_checkpoint tables id lengths.items place bytes row)) e
followed layout tables (Cancelled job) deck change e = let there = of_run-there tables job is_running e in (there.0, there.1, tt)
followed layout tables (StepEnded job step rc writes lengths) deck change e = of_run-there tables job (λ row. is_running row && step_in (place_of row) == step && lengths_follow tables row lengths.items) e
followed layout tables (Ended job ending) deck change e = of_run-there tables job (λ row. ended_follows tables row ending) e
followed layout tables (Purged job) deck change e = let there = of_run-there tables job (is_in_state Queued) e in (there.0, there.1, tt)
followed layout tables _ deck change e = absurd (false≢true change)

-- the place of the run
pub placed_at : (desk : TablesModel) (event : Event) (deck : Option Job) → is_run_change event ≡ true → MayFollow desk event deck → (0 < job_of event) × (job_of event ≤ length desk.runs)
placed_at desk event deck change may =
    let there = followed may.0 desk event deck change may.1 in by (job_of event) there.0 there.1
  where
    by : (job : ℕ) (row : RunRow) → run_of desk job ≡ Some row → (0 < job) × (job ≤ length desk.runs)
    by zero row found = absurd (some-not-none _ (sym found))
    by (suc place) row found = (omega arith, slice_get_within desk.runs place row found)

named_so : (origin : Origin) (root owner step dd : Name) → has_set origin ≡ true → (name : Name) × (origin_name origin root owner step dd ≡ Some name)
named_so (InStream cards) root owner step dd e = absurd (false≢true e)
named_so (NamedOrigin name) root owner step dd e = (_, refl)
named_so (Temporary name) root owner step dd e = (_, refl)
named_so Unnamed root owner step dd e = (_, refl)
named_so Sysout root owner step dd e = (_, refl)
named_so Dummy root owner step dd e = absurd (false≢true e)

master_named : (step : Step) (root : ℕ) (own : OwnedStep) → is_update step.program ≡ true → has_master step ≡ true → step ≡ own.step → (name : Name) × (master_name root own ≡ Some name)
master_named step root own update has same = by (master_dd own.step) refl
  where
    either : (a b : Bool) → a ≡ true → (not a || b) ≡ true → b ≡ true
    either true b e f = f
    either false b e f = absurd (false≢true e)

    by : (found : Option Dd) → master_dd own.step ≡ found → (name : Name) × (master_name root own ≡ Some name)
    by found there =
        let there_is : option_map_or (λ (dd : Dd). has_set dd.origin) found false ≡ true =
        ap (λ f. option_map_or (λ (dd : Dd). has_set dd.origin) f false) (sym (ap master_dd same ∙ there)) ∙ either (is_update step.program) (option_map_or (λ (dd : Dd). has_set dd.origin) (master_dd step) false) update has in
        each found there there_is
      where
        each : (found : Option Dd) → master_dd own.step ≡ found → option_map_or (λ (dd : Dd). has_set dd.origin) found false ≡ true → (name : Name) × (master_name root own ≡ Some name)
        each None there e = absurd (false≢true e)
        each (Some dd) there e =
            let named = named_so dd.origin (run_name root) (run_name own.owner) own.step.name dd.name e in
            (named.0, ap (option_and_then (name_of root own)) there ∙ named.1)

restamps : (writings : Writings) (sets : Named Holding) → EachEntry HasFewRewrites (seen_under (table_in writings) sets) → (name : Name) → MayRestamp (entry_at sets name)
restamps writings sets counts name = by (entry_at sets name) refl
  where
    by : (found : Option Holding) → entry_at sets name ≡ found → MayRestamp found
    by None there = tt
    by (Some holding) there = each-at HasFewRewrites (seen_under (table_in writings) sets) counts name (table_in writings name holding) (at-viewed (table_in writings) sets name ∙ ap (option_map (table_in writings name)) there)

-- no run on a free initiator
pub none_on : (runs : List RunRow) (initiator : ℕ) → list_all (λ (row : RunRow). not (option_eq nat_eq row.initiator (Some initiator))) runs ≡ true → (place : ℕ) (row : RunRow) → slice_get runs place ≡ Some row → row.initiator ≡ Some initiator → ⊥
none_on [] initiator all place row there on = some-not-none _ (sym there)
none_on (one ∷ runs) initiator all zero row there on =
    at_false row.initiator initiator (ap (λ (r : RunRow). option_eq nat_eq r.initiator (Some initiator)) (sym (same_Some one row there)) ∙ not-true (option_eq nat_eq one.initiator (Some initiator)) (and-first (not (option_eq nat_eq one.initiator (Some initiator))) _ all)) on
none_on (one ∷ runs) initiator all (suc place) row there on = none_on runs initiator (and-second (not (option_eq nat_eq one.initiator (Some initiator))) _ all) place row there on

module _ (library : Catalog) (lines : List Run) (tables : List RunTable) (index : List ℕ) (spare : Spare) (entered : List (Roomy WrittenEntry)) (kept : AreKept library.sets lines tables index spare.marks.items entered) (event : Event) (deck : Option Job) (change : is_run_change event ≡ true) where
  abbrev pub writings : Writings
  writings = map written_of entered

  abbrev pub desk : TablesModel
  desk = record { sets = seen_under (table_in writings) library.sets; runs = rows_of lines tables }

  module _ (may : MayFollow desk event deck) (place : ℕ) (line : Run) (table : RunTable) (entries : Roomy WrittenEntry) (numbered : job_of event ≡ suc place) (lined : slice_get lines place ≡ Some line) (tabled : slice_get tables place ≡ Some table) (entries_there : slice_get entered place ≡ Some entries) where
    abbrev facts : RunTableView
    facts = facts_of table

    abbrev row : RunRow
    row = row_with line facts

    abbrev now : Going Holding
    now = going line facts library.sets

    is : IsRun (1 + place) line table
    is = runs-at 1 lines tables kept.runs place line table lined tabled

    number_is : line.number ≡ suc place
    number_is = is.numbered ∙ omega arith

    run_found : run_of desk (suc place) ≡ Some row
    run_found = rows-at lines tables place line table lined tabled

    found : run_of desk line.number ≡ Some row
    found = ap (run_of desk) number_is ∙ run_found

    row_follows : RowFollows may.0 desk event row
    row_follows =
        let there = followed may.0 desk event deck change may.1 in
        subst (RowFollows may.0 desk event) (same_Some there.0 row (sym there.1 ∙ ap (run_of desk) numbered ∙ run_found)) there.2

    -- its job is within the limits
    pub run_fits : IsFitting (effective line.number table.job)
    run_fits = subst (λ n. IsFitting (effective n table.job)) (sym is.numbered) is.fits

    own_limits : (step : ℕ) (own : OwnedStep) → step_at (effective line.number table.job) step ≡ Some own → IsTrue (has_few_dds own.step) × (are_distinct (names_of table.job.root own) ≡ true)
    own_limits step own there = (
      few_of (effective line.number table.job) run_fits step own there,
      step-all (λ (one : OwnedStep). are_distinct (names_of table.job.root one)) (effective line.number table.job) step own (subst (λ n. HasDistinctNames (effective n table.job)) (sym is.numbered) is.distinct) there,
    )

    -- which names of its step the steps before it made
    abbrev earlier : List Bool
    earlier = earlier_for event (points_in tables) line.number facts

    makes_by : (one : Event) → RowFollows may.0 desk one row → MakesSameBy one (going line facts desk.sets)
    makes_by (Started job step items) follows = (started-makes may.0 writings line facts library.sets (rows_of lines tables) step items.items (own_limits step) follows).0
    makes_by _ follows = tt

    lengths_of : (ending : Ending) → ended_follows desk row ending ≡ true → HasLengths table.job.root ending library.sets (step_at (effective line.number table.job) (step_in (place_now facts)))
    lengths_of Completed follows = tt
    lengths_of (Coded code rule writes lengths) follows =
        lengths_fit may.0 writings line facts library.sets (rows_of lines tables) lengths.items (and-second _ (lengths_follow desk row lengths.items) follows)
    lengths_of (Allocation dd cause one more) follows = tt

    may_make : (one : Event) → RowFollows may.0 desk one row → MayMakeBy one now
    may_make (Started job step items) follows = (started-makes may.0 writings line facts library.sets (rows_of lines tables) step items.items (own_limits step) follows).1
    may_make (Rewritten job taken writes lengths place image) follows =
        lengths_fit may.0 writings line facts library.sets (rows_of lines tables) lengths.items (and-second (is_running row) (lengths_follow desk row lengths.items) (and-first _ (of_step row (is_rewrite desk place image row)) follows))
    may_make (Checkpointed job id taken writes lengths at bytes) follows =
        lengths_fit may.0 writings line facts library.sets (rows_of lines tables) lengths.items (and-second (is_running row) (lengths_follow desk row lengths.items) (and-first _ (of_step row (is_checkpoint desk id lengths.items at bytes row)) follows))
    may_make (StepEnded job step rc writes lengths) follows =
        lengths_fit may.0 writings line facts library.sets (rows_of lines tables) lengths.items (and-second _ (lengths_follow desk row lengths.items) follows)
    may_make (Ended job ending) follows = lengths_of ending follows
    may_make _ follows = tt

    module _ (runs_room lines_room writings_room : ℕ) where
      abbrev pub room : TablesRoom
      room = record {
        sets = library.room;
        kept = library.entry_rooms;
        runs = runs_room;
        lines = lines_room;
        sorted = spare.sorted.room;
        marks = spare.marks.room;
        passed = spare.passed.room;
        next = option_map next_of spare.next;
        each = map room_of tables;
        writings = writings_room;
        entries = map (λ (one : Roomy WrittenEntry). one.room) entered;
      }

      room_found : room_at room (job_of event) ≡ Some (room_of table)
      room_found = ap (room_at room) numbered ∙ slice_get-map room_of tables place ∙ ap (option_map room_of) tabled

      master_of : (at : ℕ) (image : List ℕ) (there : Option OwnedStep) → step_at (effective line.number table.job) (step_in (place_now facts)) ≡ there → EachEntry HasFewRewrites desk.sets
          → option_map_or (is_rewrite desk at image row) there false ≡ true → MayRewriteIn table.job.root library.sets there
      master_of at image None is_there counts follows = tt
      master_of at image (Some own) is_there counts follows =
          let master = step-all (λ (one : OwnedStep). has_master one.step) (effective line.number table.job) (step_in (place_now facts)) own (subst (λ n. list_all (λ (one : OwnedStep). has_master one.step) (effective n table.job).steps ≡ true) (sym is.numbered) is.masters) is_there in
          let named = master_named own.step table.job.root own (and-first (is_update own.step.program) _ follows) master refl in
          (named.0, named.1, λ one. restamps writings library.sets counts one)

      abbrev roomy : RoomyTables
      roomy = record { desk = desk; room = room }

      keeps_of : (id : Name) (lengths : List ℕ) (at bytes : ℕ) (there : Option OwnedStep) → option_map_or (is_checkpoint desk id lengths at bytes row) there false ≡ true → HasKeptRoom roomy table.job.root there → MayKeep table.job.root at bytes lengths library there
      keeps_of id lengths at bytes None follows has = tt
      keeps_of id lengths at bytes (Some own) follows has =
          let set = name_with_role table.job.root own is_checkpoints in
          record {
            output = and-second _ (is_length_of set (at + records_of bytes) (output_names table.job.root own) lengths) follows;
            room = by (checkpoint_name table.job.root own) refl has;
          }
        where
          some_of : (found : Option TableSet) (test : TableSet → Bool) → option_map_or test found false ≡ true → IsSome found
          some_of None test e = absurd (false≢true e)
          some_of (Some one) test e = refl

          by : (found : Option Name) → checkpoint_name table.job.root own ≡ found → HasRoomUnder roomy found → HasRoomNow library found
          by None e has = tt
          by (Some name) e has =
              let set = name_with_role table.job.root own is_checkpoints in
              has (subst (λ n. IsSome (entry_at desk.sets n)) (role-named table.job.root own name e)
              (some_of (entry_at desk.sets set) (λ one. at == one.set.length && is_none (kept_at desk.sets set id)) (and-first _ (is_length_of set (at + records_of bytes) (output_names table.job.root own) lengths) follows)))

      may_by : (one : Event) → MayCount one desk.sets → RowFollows may.0 desk one row → HasRoomIn roomy row (room_of table) one → MayChange one line.number table entries library spare
      may_by (Started job step items) count follows has = record {
        room = record { sorted = has.sorted; marks = has.marks; passed = has.passed };
        point = has.points;
        sets = has.sets;
        may = (started-makes may.0 writings line facts library.sets (rows_of lines tables) step items.items (own_limits step) follows).1;
      }
      may_by (Rewritten job taken writes lengths place image) count follows has = record {
        fits = lengths_fit may.0 writings line facts library.sets (rows_of lines tables) lengths.items (and-second (is_running row) (lengths_follow desk row lengths.items) (and-first _ (of_step row (is_rewrite desk place image row)) follows));
        master = master_of place image (step_at (effective line.number table.job) (step_in (place_now facts))) refl count (and-second _ (of_step row (is_rewrite desk place image row)) follows);
      }
      may_by (Checkpointed job id taken writes lengths at bytes) count follows has = record {
        fits = lengths_fit may.0 writings line facts library.sets (rows_of lines tables) lengths.items (and-second (is_running row) (lengths_follow desk row lengths.items) (and-first _ (of_step row (is_checkpoint desk id lengths.items at bytes row)) follows));
        point = record { sorted = has.sorted; marks = has.marks; passed = has.passed };
        entries = has.entries entries.room (ap (entries_at room) number_is ∙ slice_get-map (λ (one : Roomy WrittenEntry). one.room) entered place ∙ ap (option_map (λ (one : Roomy WrittenEntry). one.room)) entries_there);
        few = has.few;
        keeps = keeps_of id lengths.items at bytes (step_at (effective line.number table.job) (step_in (place_now facts))) (and-second _ (of_step row (is_checkpoint desk id lengths.items at bytes row)) follows) has.kept;
      }
      may_by (StepEnded job step rc writes lengths) count follows has = record {
        fits = lengths_fit may.0 writings line facts library.sets (rows_of lines tables) lengths.items (and-second _ (lengths_follow desk row lengths.items) follows);
        passed = has.passed;
        codes = has.codes;
      }
      may_by (Ended job ending) count follows has = record { fits = lengths_of ending follows; passed = has.passed }
      may_by _ count follows has = tt

      -- what the event needs is there
      pub may_change : MayCount event desk.sets → HasRoom roomy event → MayChange event line.number table entries library spare
      may_change count has = may_by event count row_follows (has.run row (room_of table) (ap (run_of desk) numbered ∙ run_found) room_found)

    -- ---- what it leaves

    -- the data sets as they are seen with what the run has written then, and the entry that is kept
    abbrev later : Event → Writings
    later one = slice_set writings place (written_after holding_kit one now (written_of entries))

    written_there : slice_get writings place ≡ Some (written_of entries)
    written_there = slice_get-map written_of entered place ∙ ap (option_map written_of) entries_there

    abbrev Behind : Event → Type 0
    Behind one = (seen_under (table_in (later one)) library.sets ≡ desk.sets) × Keeps (table_in (later one)) holding_kit table_kit (table_view (later one)) one now

    same_before : seen_under (table_in (slice_set writings place (written_of entries))) library.sets ≡ desk.sets
    same_before = ap (λ all. seen_under (table_in all) library.sets) (set-same writings place (written_of entries) written_there)

    module _ (ordered : IsTrue (are_named_in_order library.sets)) where
      behind_in : (id : Name) (taken writes at bytes : ℕ) (lengths : List ℕ) (there : Option OwnedStep) → option_map_or (is_checkpoint desk id lengths at bytes row) there false ≡ true
          → (let step = step_in (place_now facts) in let kept_now = kept_by now id at bytes in
          let all : Writings = slice_set writings place (option_map_or (λ own. written_of entries ++ check_writing holding_kit step kept_now taken writes (committed_by holding_kit lengths own now).sets now own ∷ []) there (written_of entries)) in
          (seen_under (table_in all) library.sets ≡ desk.sets) × KeepsIn (table_in all) holding_kit table_kit (table_view all) step kept_now taken writes lengths now there)
      behind_in id taken writes at bytes lengths None follows = (same_before, tt)
      behind_in id taken writes at bytes lengths (Some own) follows =
          let step = step_in (place_now facts) in
          let kept_now = kept_by now id at bytes in
          let set = name_with_role table.job.root own is_checkpoints in
          let one = check_writing holding_kit step kept_now taken writes (committed_by holding_kit lengths own now).sets now own in (
            still-seen writings place (written_of entries) written_there one library.sets (T-from-true _ ordered) (free_of (entry_at library.sets set) refl),
            keeps-new writings place (written_of entries) written_there one kept_now number_is (and_from _ _ (and_from _ _ (name-itself set) (name-itself id)) (equal-itself at)),
          )
        where
          free_of : (found : Option Holding) → entry_at library.sets (name_with_role table.job.root own is_checkpoints) ≡ found → IsUnkept id found
          free_of None e = tt
          free_of (Some holding) e =
              let set = name_with_role table.job.root own is_checkpoints in
              let there : entry_at desk.sets set ≡ Some (table_in writings set holding) = at-viewed (table_in writings) library.sets set ∙ ap (option_map (table_in writings set)) e in
              let test : option_map_or (λ (one : TableSet). at == one.set.length && is_none (kept_at desk.sets set id)) (entry_at desk.sets set) false ≡ true = and-first _ (is_length_of set (at + records_of bytes) (output_names table.job.root own) lengths) follows in
              let none : is_none (kept_at desk.sets set id) ≡ true =
              and-second (at == holding.set.length) _ (ap (λ found. option_map_or (λ (one : TableSet). at == one.set.length && is_none (kept_at desk.sets set id)) found false) (sym there) ∙ test) in
              unkept writings set id holding.kept (ap (λ found. is_none (option_map_or (λ (one : TableSet). find (λ entry. same_name entry.kept.id id) one.entries) found None)) (sym there) ∙ none)

      behind : (one : Event) → RowFollows may.0 desk one row → Behind one
      behind (Checkpointed job id taken writes lengths at bytes) follows =
          behind_in id taken writes at bytes lengths.items (step_at (effective line.number table.job) (step_in (place_now facts))) (and-second _ (of_step row (is_checkpoint desk id lengths.items at bytes row)) follows)
      behind _ follows = (same_before, tt)

    module _ (new : Run) (after : RunTable) (sets : Named Holding) (goes : going new (facts_of after) sets ≡ changed holding_kit earlier event now) where
      left : Stays event now (going new (facts_of after) sets)
      left = subst (Stays event now) (sym goes) (stays earlier event now)

      -- the rows tell the same
      earlier_told : earlier_for event (row_points desk) line.number facts ≡ earlier
      earlier_told = earlier-same (row_points desk) (points_in tables) (points-seen tables desk (facts-rows 1 lines tables kept.runs)) event line.number facts

      new_number : new.number ≡ suc place
      new_number = left.number ∙ number_is

      -- the tables as they are seen
      pub desk_after : IsTrue (are_named_in_order library.sets) → (more : Roomy WrittenEntry) → written_of more ≡ written_after holding_kit event now (written_of entries)
          → record { sets = seen_under (table_in (map written_of (slice_set entered place more))) sets; runs = rows_of (slice_set lines place new) (slice_set tables place after) } ≡ after_event event deck desk
      desk_after ordered more wrote =
          let all : Writings = later event in
          let goes_behind = behind ordered event row_follows in
          ap (λ (now_written : Writings). let all_tables : TablesModel = record { sets = seen_under (table_in now_written) sets; runs = rows_of (slice_set lines place new) (slice_set tables place after) } in all_tables) (map-set written_of entered place more ∙ ap (slice_set writings place) wrote)
          ∙ ap (λ runs. let all_tables : TablesModel = record { sets = seen_under (table_in all) sets; runs = runs } in all_tables) (rows-set lines tables place new after ∙ ap (λ n. with_row (row_of new after) n (rows_of lines tables)) (sym new_number))
          ∙ ap (λ seen. desk_with seen desk)
          (
          ap (going_viewed (table_in all)) goes ∙ changed_seen (table_in all) holding_kit table_kit (table_view all) earlier event now goes_behind.1
          ∙ ap (λ seen. changed table_kit earlier event (going line facts seen)) goes_behind.0
          ∙ ap (λ flags. changed table_kit flags event (going line facts desk.sets)) (sym earlier_told)
          )
          ∙ sym (event_in desk line facts found event deck change (number_is ∙ sym numbered) (makes_by event row_follows))

      free_by : (one : Event) → RowFollows may.0 desk one row → (i : ℕ) → IsSelecting i one → (k : ℕ) → initiator_at lines k ≡ Some i → ⊥
      free_by (Submitted job cards) follows i selecting k on = selecting
      free_by (Selected job initiator earlier step id) follows i selecting k on = by (slice_get lines k) refl on
        where
          free : list_all (λ (one : RunRow). not (option_eq nat_eq one.initiator (Some initiator))) desk.runs ≡ true
          free = and-second _ (list_all (λ (one : RunRow). not (option_eq nat_eq one.initiator (Some initiator))) desk.runs) (and-second (is_in_state Queued row) (is_free may.0 desk initiator) (and-first _ (may_hold desk row) (and-first _ (option_map_or (λ restart. may_restart desk row restart earlier step id) row.deck.restart (earlier == 0 && step == 0 && is_none id)) follows)))

          by : (found : Option Run) → slice_get lines k ≡ found → option_and_then (λ (l : Run). l.initiator) found ≡ Some i → ⊥
          by None none on = some-not-none _ (sym on)
          by (Some l) some on =
              let there = tabled_at tables k (length-rows 1 lines tables kept.runs).0 (slice_get_within lines k l some) in
              none_on desk.runs initiator free k (row_of l there.0) (rows-at lines tables k l there.0 some there.1) (on ∙ ap Some (sym selecting))
            where
              tabled_at : (all : List RunTable) (n : ℕ) → length lines ≡ length all → n < length lines → (one : RunTable) × (slice_get all n ≡ Some one)
              tabled_at all n same inside = at all n (omega (arith, same, inside))
                where
                  at : (all : List RunTable) (n : ℕ) → n < length all → (one : RunTable) × (slice_get all n ≡ Some one)
                  at [] n inside = absurd (omega (arith, inside))
                  at (one ∷ all) zero inside = (one, refl)
                  at (one ∷ all) (suc n) inside = at all n (omega (arith, inside))
      free_by _ follows i selecting k on = selecting

      only : (i k : ℕ) → new.initiator ≡ Some i → initiator_at lines k ≡ Some i → k ≡ place
      only i k on there = by (left.on i on)
        where
          by : (line.initiator ≡ Some i) ⊎ IsSelecting i event → k ≡ place
          by (inl before) =
              suc-same k place (sym (kept.indexed.all i k there) ∙ kept.indexed.all i place (ap (λ (found : Option Run). option_and_then (λ (l : Run). l.initiator) found) lined ∙ before))
          by (inr selecting) = absurd (free_by event row_follows i selecting k there)

      new_is : IsRun (1 + place) new after
      new_is = run-stays (1 + place) line new table after is left.number left.name left.job (λ queued. let before = left.free queued in before.1 ∙ is.free before.0)

      -- what is kept
      pub kept_after : (more : Roomy WrittenEntry) (marks : List Mark) → marks ≡ [] → ((i : ℕ) → new.initiator ≡ Some i → i < 256)
          → AreKept sets (slice_set lines place new) (slice_set tables place after) (put_at new.initiator (suc place) (put_at line.initiator 0 index)) marks (slice_set entered place more)
      kept_after more marks spared fits = record {
        wide = subst (EachEntry IsWide) (ap (λ (all : Going Holding). all.sets) (sym goes)) (changed-wide earlier event now (may_make event row_follows) kept.wide);
        filled = subst (EachEntry IsFilled) (ap (λ (all : Going Holding). all.sets) (sym goes)) (changed-filled earlier event now (may_make event row_follows) kept.filled);
        runs = runs-set 1 lines tables kept.runs place new after new_is;
        few = subst (λ n. n ≤ 9999999) (sym (length-set tables place after)) kept.few;
        indexed = index_changed lines index kept.indexed place line lined new fits only;
        spare = spared;
        written = length-set entered place more ∙ kept.written ∙ sym (length-set tables place after);
      }
