-- The marks of an entry: of the names of the run's own steps by the data sets with the lengths that are committed and by those of the step, and of the others as
-- they were carried over.
use Rattle.std.specs.Prelude.{◌≡◌, ◌≤◌, ℕ, Bool, true, false, if◌then◌else◌, List, [], Option, Some}
use Rattle.std.specs.Option.{option_map, option_map_or}
use Rattle.ckr_entry.specs.declared.point.Mark.{Mark}
use Rattle.ckr_entry.specs.declared.point.Present.{Present}
use Rattle.ckr_library.specs.declared.sets.DataSet.{DataSet}
use Rattle.ckr_library.specs.Catalog.{Holding, set_of}
use Rattle.ckr_library.specs.NameMaps.{Name, Named, same_name}
use Rattle.ckr_meaning.specs.EffectiveJob.{is_among}
use Rattle.ckr_points_library.specs.Commit.{output_names}
use Rattle.ckr_points.specs.Marks.{present_of}
use Rattle.ckr_points_tables.specs.RunJobs.{IsFitting, effective, own_of}
use Rattle.ckr_points_tables.specs.RunMarks.{carried_by, mark_by, own_names_of}
use Rattle.ckr_points_tables.specs.View.{facts_of}
use Rattle.ckr_desk_plans.specs.declared.entry_marks.Behind.{Behind}
use Rattle.ckr_desk_plans.specs.StepView.{length_in}

-- the length of a data set behind the checkpoint, where that for checkpoints is so long then
abbrev pub length_behind : Option Name → ℕ → Named Holding → Name → ℕ
length_behind check most sets name = if option_map_or (same_name name) check false then most else length_in sets name

-- whether a data set is an output of the step
abbrev pub is_output_of : Behind → Name → Bool
is_output_of behind name = is_among (output_names behind.table.now.job.root (own_of behind.own.now)) name

abbrev pub length_of : Behind → Name → DataSet → ℕ
length_of behind name set = if is_output_of behind name then length_behind (Some behind.check.now) behind.end behind.on.now.sets.sets name else set.length

abbrev pub present_behind : Behind → Name → DataSet → Present
present_behind behind name set = record (present_of (record { set = set; entries = [] })) { length = length_of behind name set }

-- the mark of a name as the data sets are behind the checkpoint
abbrev pub now_behind : Behind → Name → Mark
now_behind behind name = record { name = name; present = option_map (present_behind behind name) (set_of behind.committed.now name) }

-- the names of the steps that the run executes itself
abbrev pub own_names_behind : Behind → List Name
own_names_behind behind = own_names_of behind.on.now.run behind.table.now.job

-- the marks of the point from which the run was continued
abbrev pub carried_behind : Behind → List Mark
carried_behind behind = carried_by (facts_of behind.table.now).points behind.table.now.job.earlier_step

-- the mark of a name: own names as the data sets are, others as they were carried over, where they were
abbrev pub mark_behind : Behind → Name → Mark
mark_behind behind = mark_by (now_behind behind) (own_names_behind behind) (carried_behind behind)

-- these names are of steps that the run executes itself
abbrev pub AreOwnNames : Behind → List Name → Type 0
AreOwnNames behind names = (name : Name) → is_among names name ≡ true → is_among (own_names_behind behind) name ≡ true

-- the job of the run is within the limits, and the number of the run that owns its step has at most seven digits
pub record MayMark (behind : Behind) : Type 0 where
  pub fits : IsFitting (effective behind.on.now.run behind.table.now.job)
  pub owner : behind.own.now.owner ≤ 9999999
