-- The tables after one more event.
use Rattle.std.specs.Prelude.{ℕ, suc, pred, ◌==◌, Bool, true, false, ◌||◌, if◌then◌else◌, List, [], ◌∷◌, ◌++◌, map, filter, find, take, sum_by, None, Some}
use Rattle.std.specs.Option.{option_map, option_map_or}
use Rattle.std.specs.List.{filter_map}
use Rattle.ckr_base.specs.declared.code.Code.{Code}
use Rattle.ckr_meaning.specs.SetUses.Disposal.{dispose, is_temporary}
use Rattle.ckr_points_library.specs.Commit as allocation
use Rattle.ckr_jcl.specs.declared.deck.Dd.{Dd}
use Rattle.ckr_jcl.specs.declared.deck.Job.{Job}
use Rattle.ckr_jcl.specs.declared.deck.Role.{Role}
use Rattle.ckr_jcl.specs.declared.deck.Role.TheVariants.{Reads, Writes, Updates, Checkpoints, Unused}
use Rattle.ckr_events.specs.declared.event.Made.{Made}
use Rattle.ckr_library.specs.declared.sets.Kept.{Kept}
use Rattle.ckr_library.specs.declared.sets.Part.{Part}
use Rattle.ckr_library.specs.declared.sets.Stamp.{Stamp}
use Rattle.ckr_library.specs.NameMaps.{Name, Named, with_entry, with_changed}
use Rattle.ckr_meaning.specs.Allotments.{AllotmentModel, found, made, refused, DdAllotment, opened_all, content_for, space_for}
use Rattle.ckr_meaning.specs.Dispositions.{Stock, Disposal, disposed_all}
use Rattle.ckr_meaning.specs.EffectiveJob.{OwnedStep, plain_job, stamp_of, name_of, names_of, is_among, placed_in}
use Rattle.ckr_meaning.specs.declared.place.Place.TheVariants.{Before, Within}
use Rattle.ckr_meaning.specs.StepRun.{rewritten_stamp}
use Rattle.ckr_points.specs.declared.run.RunState.TheVariants.{Queued, On, Held}
use Rattle.ckr_points.specs.Rows.{EntryPoint, KeptEntry, TableSet, StartPoint, EffectPoint, RunRow, TablesModel, run_of, with_run, standing_of, with_standing, table_ways, cut_set}
use Rattle.ckr_points_library.specs.Commit.{output_names}
use Rattle.ckr_points.specs.Marks.{marks_now, point_at, with_point, made_names}

-- a run that was just submitted
abbrev pub queued_run : ℕ → Job → RunRow
queued_run number deck = record {
  number = number;
  deck = deck;
  job = plain_job number deck;
  state = Queued;
  initiator = None;
  earlier = 0;
  earlier_step = 0;
  place = None;
  code = None;
  count = 0;
  rcs = [];
  passed = [];
  lost = [];
  points = [];
  in_effect = None;
}

-- after Submitted
abbrev pub after_submitted : ℕ → Job → TablesModel → TablesModel
after_submitted number deck tables = record tables { runs = tables.runs ++ queued_run number deck ∷ [] }

-- after Selected of a run without RESTART
abbrev pub after_selected : RunRow → ℕ → TablesModel → TablesModel
after_selected row initiator tables =
    with_run (record row { state = On; initiator = Some initiator; place = Some (Before 1) }) tables

-- the committed lengths, one for each output of a step, in the order of the DDs
abbrev pub committed : List Name → List ℕ → Named TableSet → Named TableSet
committed names lengths sets = allocation.committed cut_set names lengths sets

abbrev pub part_of : Made → Part
part_of item = record {
  volume = item.volume;
  extents = record { items = map (λ piece. record { start = piece.start; records = piece.records }) item.pieces.items };
  records = sum_by (λ piece. piece.records) item.pieces.items;
}

-- the parts that an event gives for a DD
abbrev pub parts_from : ℕ → List Made → List Part
parts_from dd items = map part_of (filter (λ item. item.dd == dd) items)

-- a data set as a DD makes it
abbrev pub fresh_table : Stamp → DdAllotment → List Part → TableSet
fresh_table stamp placed parts = record {
  set = record {
    parts = record { items = parts };
    cataloged = false;
    lrecl = placed.dd.lrecl;
    space = space_for placed.dd;
    length = 0;
    stamp = stamp;
    content = content_for placed.dd.role;
  };
  entries = [];
}

abbrev pub made_table : Stamp → List Made → DdAllotment → AllotmentModel → Named TableSet → Named TableSet
made_table stamp items placed found sets = sets
made_table stamp items placed made sets = with_entry placed.name (fresh_table stamp placed (parts_from placed.number items)) sets
made_table stamp items placed (refused flaw) sets = sets

abbrev pub made_tables : Stamp → List Made → List DdAllotment → Named TableSet → Named TableSet
made_tables stamp items [] sets = sets
made_tables stamp items (placed ∷ rest) sets = made_tables stamp items rest (made_table stamp items placed placed.allotment sets)

-- the step point of a step that starts, which keeps its count of restarts
abbrev pub start_point : RunRow → ℕ → Named TableSet → StartPoint
start_point row step sets = record {
  step = step;
  restarts = option_map_or (λ point. point.restarts) (point_at row.points step) 0;
  rewritten = false;
  count = row.count;
  marks = marks_now row sets;
  passed = row.passed;
}

-- after Started: opened, the step point taken, made
abbrev pub after_started : RunRow → OwnedStep → ℕ → List Made → TablesModel → TablesModel
after_started row owned step items tables =
    let stamp = stamp_of owned step in
    let placed = placed_in table_ways (standing_of row tables) row.job.root owned in
    let opened = opened_all table_ways stamp placed tables.sets in
    with_run (record row { place = Some (Within step 0); points = with_point (start_point row step opened) row.points })
    (record tables { sets = made_tables stamp items placed opened })

-- the tables with the lengths of a step committed, and the run within it
abbrev pub after_commit : RunRow → OwnedStep → ℕ → ℕ → List ℕ → TablesModel → TablesModel
after_commit row owned step writes lengths tables =
    with_run (record row { place = Some (Within step writes) })
    (record tables { sets = committed (output_names row.job.root owned) lengths tables.sets })

abbrev pub effect_rewritten : EffectPoint → EffectPoint
effect_rewritten effect = record effect { rewritten = true }

abbrev pub point_rewritten : ℕ → StartPoint → StartPoint
point_rewritten step point = if point.step == step then record point { rewritten = true } else point

abbrev pub row_rewritten : ℕ → RunRow → RunRow
row_rewritten step row = record row { points = map (point_rewritten step) row.points; in_effect = option_map effect_rewritten row.in_effect }

-- the library's name of the DD with a role
abbrev pub name_with_role : ℕ → OwnedStep → (Role → Bool) → Name
name_with_role root owned is_role =
    option_map_or (λ dd. option_map_or (λ name. name) (name_of root owned dd) []) (find (λ dd. is_role dd.role) owned.step.dds) []

abbrev pub is_updates : Role → Bool
is_updates Reads = false
is_updates Writes = false
is_updates Updates = true
is_updates Checkpoints = false
is_updates Unused = false

abbrev pub is_checkpoints : Role → Bool
is_checkpoints Reads = false
is_checkpoints Writes = false
is_checkpoints Updates = false
is_checkpoints Checkpoints = true
is_checkpoints Unused = false

-- a data set with the stamp of one more rewrite
abbrev pub table_rewritten : ℕ → ℕ → TableSet → TableSet
table_rewritten owner step table = table_ways.stamped (rewritten_stamp owner step table.set.stamp) table

-- after Rewritten: the lengths are committed, and the stamp tells the rewrite
abbrev pub after_rewritten : RunRow → OwnedStep → ℕ → ℕ → List ℕ → TablesModel → TablesModel
after_rewritten row owned step writes lengths tables =
    let done = after_commit (row_rewritten step row) owned step writes lengths tables in
    record done { sets = with_changed (name_with_role row.job.root owned is_updates) (table_rewritten owned.owner step) done.sets }

-- the point of a checkpoint that is taken now; the run's entries count this one
abbrev pub entry_point : RunRow → OwnedStep → ℕ → ℕ → ℕ → Named TableSet → EntryPoint
entry_point row owned step taken writes sets = record {
  job = row.deck.name;
  run = row.number;
  owner = owned.owner;
  step = step;
  step_name = owned.step.name;
  count = suc row.count;
  taken = taken;
  writes = writes;
  marks = marks_now row sets;
  passed = row.passed;
}

abbrev pub with_kept_entry : KeptEntry → TableSet → TableSet
with_kept_entry entry table = record table { entries = table.entries ++ entry ∷ [] }

-- a checkpoint as it comes into effect
abbrev pub fresh_effect : Name → Kept → EffectPoint
fresh_effect set kept = record { set = set; kept = kept; restarts = 0; rewritten = false }

abbrev pub kept_entry : Kept → EntryPoint → KeptEntry
kept_entry kept point = record { kept = kept; point = point }

-- after Checkpointed: committed, the entry kept and in effect
abbrev pub after_checkpointed : RunRow → OwnedStep → ℕ → Kept → ℕ → ℕ → List ℕ → TablesModel → TablesModel
after_checkpointed row owned step kept taken writes lengths tables =
    let set = name_with_role row.job.root owned is_checkpoints in
    let done = after_commit (record row { count = suc row.count; in_effect = Some (fresh_effect set kept) }) owned step writes lengths tables in
    let entry = kept_entry kept (entry_point row owned step taken writes done.sets) in
    record done { sets = with_changed set (with_kept_entry entry) done.sets }

-- after Cancelled
abbrev pub after_cancelled : RunRow → TablesModel → TablesModel
after_cancelled row tables = with_run (record row { in_effect = None }) tables

-- the names that a step made: its step point, in the table of its owner, marks them absent
abbrev pub step_made : TablesModel → RunRow → OwnedStep → ℕ → List Name
step_made tables row owned step =
    option_map_or (λ owner. option_map_or (λ point. made_names point.marks (names_of row.job.root owned)) (point_at owner.points step) [])
    (run_of tables owned.owner) []

abbrev pub steps_made : TablesModel → RunRow → ℕ → List OwnedStep → List Name
steps_made tables row step [] = []
steps_made tables row step (owned ∷ rest) = step_made tables row owned step ++ steps_made tables row (suc step) rest

-- the names that the steps before one made
abbrev pub earlier_made : TablesModel → RunRow → ℕ → List Name
earlier_made tables row step = steps_made tables row 1 (take (pred step) row.job.steps)

-- the names that a run's own step point of a step marks absent
abbrev pub own_made : RunRow → OwnedStep → ℕ → List Name
own_made row owned step =
    option_map_or (λ point. made_names point.marks (names_of row.job.root owned)) (point_at row.points step) []

-- a data set at the end of a step of the run: whether this step made it, whether an earlier one did
abbrev pub run_disposal : List Name → List Name → Bool → Dd → Name → Disposal
run_disposal here before abnormal dd name = record {
  name = name;
  after = dispose (is_temporary dd.origin) dd.disp (is_among here name) abnormal;
  made = is_among here name || is_among before name;
}

-- the dispositions of a step, in the order of its DDs
abbrev pub run_disposals : RunRow → OwnedStep → List Name → List Name → Bool → List Disposal
run_disposals row owned here before abnormal =
    filter_map (λ dd. option_map (run_disposal here before abnormal dd) (name_of row.job.root owned dd)) owned.step.dds

-- the data sets and the passed list after the dispositions of a step
abbrev pub after_dispositions : RunRow → OwnedStep → ℕ → Bool → TablesModel → Stock TableSet
after_dispositions row owned step abnormal tables =
    disposed_all table_ways (run_disposals row owned (own_made row owned step) (earlier_made tables row step) abnormal) (standing_of row tables)

-- after the end of a step: committed, disposed, the return code kept
abbrev pub after_step_ended : RunRow → OwnedStep → ℕ → ℕ → ℕ → List ℕ → TablesModel → TablesModel
after_step_ended row owned step rc writes lengths tables =
    let done = after_commit row owned step writes lengths tables in
    with_standing (record row { place = Some (Before (suc step)); rcs = row.rcs ++ (step, rc) ∷ []; in_effect = None })
    (after_dispositions row owned step false done) done

-- after Held
abbrev pub after_held : RunRow → OwnedStep → ℕ → Code → ℕ → List ℕ → TablesModel → TablesModel
after_held row owned step code writes lengths tables =
    after_commit (record row { state = Held; initiator = None; code = Some code }) owned step writes lengths tables
