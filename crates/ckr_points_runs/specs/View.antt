-- How what the tables keep of a run is seen.
use Rattle.std.specs.Prelude.{ℕ, zero, suc, ◌==◌, Bool, false, List, [], map, Option, Some, None}
use Rattle.std.specs.Option.{option_map, option_map_or}
use Rattle.ckr_base.specs.RoomyLists.{Roomy}
use Rattle.ckr_base.specs.declared.code.Code.{Code}
use Rattle.ckr_library.specs.Catalog.{Holding}
use Rattle.ckr_library.specs.NameMaps.{Name, Named}
use Rattle.ckr_entry.specs.declared.point.Passed.{Passed}
use Rattle.ckr_meaning.specs.JobRun.{StepCodes}
use Rattle.ckr_meaning.specs.declared.place.Place.{Place}
use Rattle.ckr_points.specs.declared.run.Run.{Run}
use Rattle.ckr_points_runs.specs.RunJobs.{JobView, effective}
use Rattle.ckr_points_runs.specs.declared.run_table.StepPoint.{StepPoint}
use Rattle.ckr_points_runs.specs.declared.run_table.InEffect.{InEffect}
use Rattle.ckr_points_runs.specs.declared.run_table.ReturnCode.{ReturnCode}
use Rattle.ckr_points_runs.specs.declared.run_table.RunTable.{RunTable}
use Rattle.ckr_points_runs.specs.declared.run_table.WrittenEntry.{WrittenEntry}
use Rattle.ckr_points.specs.Rows.{EntryPoint, TableSet, StartPoint, EffectPoint, RunRow}

-- ---- the entries that a run has written

-- the point of an entry that a run has written
abbrev pub entry_point_of : WrittenEntry → EntryPoint
entry_point_of written = record {
  job = written.job;
  run = written.run;
  owner = written.owner;
  step = written.step;
  step_name = written.step_name;
  count = written.count;
  taken = written.taken;
  writes = written.writes;
  marks = written.marks.items;
  passed = written.passed.items;
}

-- an entry that a run has written: the data set into which it wrote it, its identifier, where it begins there, and its point
pub record Writing : Type 0 where
  pub set : Name
  pub id : Name
  pub place : ℕ
  pub point : EntryPoint

abbrev pub writing_of : WrittenEntry → Writing
writing_of written = record { set = written.set; id = written.id; place = written.place; point = entry_point_of written }

abbrev pub written_of : Roomy WrittenEntry → List Writing
written_of entries = map writing_of entries.items

-- ---- data sets

-- a data set without its entries
abbrev pub table_of : Holding → TableSet
table_of holding = record { set = holding.set; entries = [] }

-- the map with each entry seen so
abbrev pub seen_by : {X Y : Type 0} → (X → Y) → Named X → Named Y
seen_by view named = map (λ entry. (entry.0, view entry.1)) named

-- ---- a run

abbrev pub point_of : StepPoint → StartPoint
point_of point = record {
  step = point.step;
  restarts = point.restarts;
  rewritten = point.rewritten;
  count = point.count;
  marks = point.marks.items;
  passed = point.passed.items;
}

-- whether a point is that of a step
abbrev pub has_step : ℕ → Option StepPoint → Bool
has_step step found = option_map_or (λ (point : StepPoint). point.step == step) found false

abbrev pub effect_of : InEffect → EffectPoint
effect_of effect = record { set = effect.set; kept = effect.kept; restarts = effect.restarts; rewritten = effect.rewritten }

abbrev pub code_of : ReturnCode → ℕ × ℕ
code_of code = (code.step, code.rc)

-- what a run has besides its line
pub record RunTableView : Type 0 where
  pub job : JobView
  pub place : Option Place
  pub code : Option Code
  pub count : ℕ
  pub rcs : StepCodes
  pub passed : List Passed
  pub lost : List Name
  pub points : List StartPoint
  pub in_effect : Option EffectPoint

abbrev pub facts_of : RunTable → RunTableView
facts_of table = record {
  job = table.job;
  place = table.place;
  code = table.code;
  count = table.count;
  rcs = map code_of table.codes.items;
  passed = table.passed.items;
  lost = table.lost.items;
  points = map point_of table.points.items;
  in_effect = option_map effect_of table.in_effect;
}

-- a run by its line and its facts
abbrev pub row_with : Run → RunTableView → RunRow
row_with line facts = record {
  number = line.number;
  deck = facts.job.deck;
  job = effective line.number facts.job;
  state = line.state;
  initiator = line.initiator;
  earlier = facts.job.earlier;
  earlier_step = facts.job.earlier_step;
  place = facts.place;
  code = facts.code;
  count = facts.count;
  rcs = facts.rcs;
  passed = facts.passed;
  lost = facts.lost;
  points = facts.points;
  in_effect = facts.in_effect;
}

-- the place of a run by its number
abbrev pub place_of : ℕ → Option ℕ
place_of zero = None
place_of (suc place) = Some place
