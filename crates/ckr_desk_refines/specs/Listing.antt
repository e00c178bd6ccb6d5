-- What is listed of the data sets of a desk: their lines, and the records of one that no run holds.
use Rattle.std.specs.Prelude.{ℕ, Bool, max, if◌then◌else◌, List, [], ◌∷◌, length, map, Option, Some, None}
use Rattle.std.specs.List.{list_any}
use Rattle.std.specs.Option.{option_map_or}
use Rattle.ckr_library.specs.declared.sets.Content.{Content}
use Rattle.ckr_library.specs.declared.sets.Content.TheVariants.{Plain, Checkpoints}
use Rattle.ckr_library.specs.declared.sets.DataSet.{DataSet}
use Rattle.ckr_library.specs.NameMaps.{Name, entry_at}
use Rattle.ckr_meaning.specs.EffectiveJob.{is_among, names_of}
use Rattle.ckr_meaning.specs.StepRun.{StepStart, set_records, within_at}
use Rattle.ckr_points.specs.Office.{Office, model_records}
use Rattle.ckr_points.specs.Rows.{TableSet, TablesModel}
use Rattle.ckr_desk_turn.specs.Desk.{DeskModel, DeskStep, start_in_run}
use Rattle.ckr_desk_refines.specs.Holders.{is_held_by}

-- ---- the lines

-- how many records a running step has in the data set of a name, where it is one of its names
abbrev pub length_at : Name → DeskStep → StepStart → ℕ
length_at name step start =
    if is_among (names_of start.root start.owned) name then option_map_or (λ set. length (set_records set)) (entry_at (within_at start step.progress.writes) name) 0 else 0

abbrev pub length_in_step : Office → Name → DeskStep → ℕ
length_in_step office name step = option_map_or (length_at name step) (start_in_run office step.run) 0

-- with the records since the last event
abbrev pub longest : Office → Name → List DeskStep → ℕ → ℕ
longest office name [] most = most
longest office name (step ∷ running) most = max (longest office name running most) (length_in_step office name step)

abbrev pub length_by : Content → DeskModel → Name → ℕ → ℕ
length_by Plain desk name committed = longest desk.office name desk.running committed
length_by Checkpoints desk name committed = committed

-- a data set with the length that it has by now, the records since the last event included
abbrev pub line_of : DeskModel → Name → TableSet → Name × DataSet
line_of desk name table = (name, record table.set { length = length_by table.set.content desk name table.set.length })

-- the data sets in the order of their names
unfoldable pub listed : DeskModel → List (Name × DataSet)
listed desk = map (λ entry. line_of desk entry.0 entry.1) desk.office.tables.sets

-- ---- the records

-- whether a run holds a name
abbrev pub is_held : TablesModel → Name → Bool
is_held tables name = list_any (is_held_by name) tables.runs

-- the data set of a name that no run holds, unless it is one for checkpoint entries
abbrev pub set_by : Content → TablesModel → Name → DataSet → Option DataSet
set_by Plain tables name set = if is_held tables name then None else Some set
set_by Checkpoints tables name set = None

abbrev pub free_set : TablesModel → Name → Option DataSet
free_set tables name = option_map_or (λ table. set_by table.set.content tables name table.set) (entry_at tables.sets name) None

abbrev pub records_by : Content → Office → Name → Option (List (List ℕ))
records_by Plain office name = if is_held office.tables name then None else Some (model_records office name)
records_by Checkpoints office name = None

-- The records of a data set that no run holds, unless it is one for checkpoint entries. They are what the ended jobs left: no run reaches a name
-- that none holds.
unfoldable pub records_of : DeskModel → Name → Option (List (List ℕ))
records_of desk name = option_map_or (λ table. records_by table.set.content desk.office name) (entry_at desk.office.tables.sets name) None
