-- How the tables in code are seen.
use Rattle.std.specs.Prelude.{ℕ, zero, suc, ◌-◌, vec_len, vec_capacity, ◌==◌, Bool, ◌&&◌, nat_eq, if◌then◌else◌, List, [], ◌∷◌, map, find, slice_get, take, Option, Some, None}
use Rattle.std.specs.Option.{option_map, option_map_or, option_eq}
use Rattle.ckr_jcl.specs.declared.deck.Job.{Job}
use Rattle.ckr_library.specs.Catalog.{Holding}
use Rattle.ckr_library.specs.NameMaps.{Name, Named, entry_at, same_name}
use Rattle.ckr_library.specs.declared.sets.Kept.{Kept}
use Rattle.ckr_points.specs.declared.run.Run.{Run}
pub use Rattle.ckr_points_runs.specs.RunJobs.{has_few_dds, has_few_serials, is_within_limits}
pub use Rattle.ckr_points_runs.specs.View.{RunTableView, effect_of, entry_point_of, facts_of, point_of, row_with, seen_by}
use Rattle.ckr_points_runs.specs.View.{Writing}
use Rattle.ckr_points_runs.specs.RunJobs.{JobView, plain_view}
use Rattle.ckr_points_runs.specs.declared.run_table.RunTable.{RunTable}
use Rattle.ckr_points.specs.Rows.{EntryPoint, TableSet, RunRow, TablesModel}
use Rattle.ckr_points.specs.Tables.{kept_entry}

-- ---- the entries that runs have written

-- whether this is the entry that the data set of a name keeps
abbrev pub is_entry : Name → Kept → Writing → Bool
is_entry set kept writing = same_name writing.set set && same_name writing.id kept.id && writing.place == kept.place

abbrev pub later_or : {A : Type 0} → Option A → Option A → Option A
later_or (Some later) first = Some later
later_or None first = first

-- the last item that passes a test
abbrev pub find_last : {A : Type 0} → (A → Bool) → List A → Option A
find_last p [] = None
find_last p (item ∷ items) = later_or (find_last p items) (if p item then Some item else None)

-- what each run has written, in the order of their numbers
abbrev pub Writings : Type 0
Writings = List (List Writing)

abbrev pub written_by : Writings → ℕ → List Writing
written_by writings zero = []
written_by writings (suc place) = option_map_or (λ written. written) (slice_get writings place) []

-- no point
abbrev pub no_point : EntryPoint
no_point = record { job = []; run = 0; owner = 0; step = 0; step_name = []; count = 0; taken = 0; writes = 0; marks = []; passed = [] }

-- the point of an entry that a data set keeps: that of the last entry that its run wrote there
abbrev pub point_for : Writings → Name → Kept → EntryPoint
point_for writings set kept = option_map_or (λ (writing : Writing). writing.point) (find_last (is_entry set kept) (written_by writings kept.run)) no_point

-- ---- data sets

-- a data set with the points of its entries
abbrev pub table_in : Writings → Name → Holding → TableSet
table_in writings set holding = record { set = holding.set; entries = map (λ kept. kept_entry kept (point_for writings set kept)) holding.kept }

-- the map with each entry seen so, under its name
abbrev pub seen_under : {X Y : Type 0} → (Name → X → Y) → Named X → Named Y
seen_under view named = map (λ entry. (entry.0, view entry.0 entry.1)) named

-- ---- runs

-- the job of a run: of the steps up to the one at which it continues another run, it has taken over each
abbrev pub job_in : RunRow → JobView
job_in row = record {
  deck = row.deck;
  root = row.job.root;
  earlier = row.earlier;
  earlier_step = row.earlier_step;
  taken = take row.earlier_step row.job.steps;
}

abbrev pub facts_in : RunRow → RunTableView
facts_in row = record {
  job = job_in row;
  place = row.place;
  code = row.code;
  count = row.count;
  rcs = row.rcs;
  passed = row.passed;
  lost = row.lost;
  points = row.points;
  in_effect = row.in_effect;
}

-- those of a run that was just submitted
abbrev pub fresh_facts : ℕ → Job → RunTableView
fresh_facts number deck = record {
  job = plain_view number deck;
  place = None;
  code = None;
  count = 0;
  rcs = [];
  passed = [];
  lost = [];
  points = [];
  in_effect = None;
}

abbrev pub line_of : RunRow → Run
line_of row = record { number = row.number; name = row.deck.name; state = row.state; initiator = row.initiator }

abbrev pub row_of : Run → RunTable → RunRow
row_of line table = row_with line (facts_of table)

abbrev pub rows_of : List Run → List RunTable → List RunRow
rows_of [] tables = []
rows_of (line ∷ lines) [] = []
rows_of (line ∷ lines) (table ∷ tables) = row_of line table ∷ rows_of lines tables

-- how many more entries the data set of a name keeps
abbrev pub kept_room : Named ℕ → Name → ℕ
kept_room rooms name = option_map_or (λ room. room) (entry_at rooms name) 0

-- the run on an initiator
abbrev pub run_on : ℕ → TablesModel → Option ℕ
run_on initiator tables = option_map (λ (row : RunRow). row.number) (find (λ row. option_eq nat_eq row.initiator (Some initiator)) tables.runs)

-- ---- spare places

-- how much more a run takes with no memory: step points, return codes, passed data sets
pub record RunRoom : Type 0 where
  pub points : ℕ
  pub codes : ℕ
  pub passed : ℕ

abbrev pub room_of : RunTable → RunRoom
room_of table = record { points = table.points.room; codes = table.codes.room; passed = table.passed.room }

-- a run as it was made for its selection, and how many more names it loses with no memory taken
pub record NextRun : Type 0 where
  pub facts : RunTableView
  pub lost : ℕ

abbrev pub next_of : RunTable → NextRun
next_of table = record { facts = facts_of table; lost = vec_capacity table.lost - vec_len table.lost }

-- how much more the tables take: data sets, and entries of each; runs, their lines and lists of entries; what a point is made of; what each run takes, and
-- how many more entries of each; and the run that was made for its selection, if one was
pub record TablesRoom : Type 0 where
  pub sets : ℕ
  pub kept : Named ℕ
  pub runs : ℕ
  pub lines : ℕ
  pub sorted : ℕ
  pub marks : ℕ
  pub passed : ℕ
  pub each : List RunRoom
  pub writings : ℕ
  pub entries : List ℕ
  pub next : Option NextRun

-- the tables, and how much more they take with no memory
pub record RoomyTables : Type 0 where
  pub desk : TablesModel
  pub room : TablesRoom
