-- The marks of a point of a run.
use Rattle.std.specs.Prelude.{◌≡◌, ℕ, true, pred, if◌then◌else◌, drop, List, []}
use Rattle.std.specs.Option.{option_map_or}
use Rattle.ckr_entry.specs.declared.point.Mark.{Mark}
use Rattle.ckr_library.specs.NameMaps.{Name}
use Rattle.ckr_meaning.specs.EffectiveJob.{is_among, names_of_job, names_of_steps}
use Rattle.ckr_points.specs.Marks.{mark_at, mark_now, marks_for, point_at}
use Rattle.ckr_points.specs.Rows.{StartPoint}
use Rattle.ckr_points_runs.specs.RunJobs.{JobView, effective}
use Rattle.ckr_points_runs.specs.View.{RunTableView, seen_by, table_of}
use Rattle.ckr_points_runs.specs.declared.marking.Marking.{Marking}

-- the names of the steps of a run from a place on
abbrev pub names_from : ℕ → ℕ → JobView → List Name
names_from place number job = names_of_steps job.root (drop place (effective number job).steps)

-- the names of the steps that a run executes itself
abbrev pub own_names_of : ℕ → JobView → List Name
own_names_of number job = names_from (pred job.earlier_step) number job

-- the mark of a name: own names as they are now, others as they were carried over, where they were
abbrev pub mark_by : (Name → Mark) → List Name → List Mark → Name → Mark
mark_by now own carried name = if is_among own name then now name else option_map_or (λ mark. mark) (mark_at carried name) (now name)

-- the marks of the point from which a run was continued
abbrev pub carried_by : List StartPoint → ℕ → List Mark
carried_by points step = option_map_or (λ (point : StartPoint). point.marks) (point_at points step) []

-- the marks of a point of a run, by how names are now
abbrev pub point_marks : ℕ → RunTableView → (Name → Mark) → List Mark
point_marks number facts now =
    marks_for (mark_by now (own_names_of number facts.job) (carried_by facts.points facts.job.earlier_step)) (names_of_job (effective number facts.job))

-- the names that are marked as the data sets are
abbrev pub marking_names : Marking → List Name
marking_names marking = names_from marking.own_from marking.run marking.job.now

-- the mark of a name as the code takes it
abbrev pub marking_mark : Marking → Name → Mark
marking_mark marking = mark_by (mark_now (seen_by table_of marking.library.now.sets)) (marking_names marking) marking.carried.now

-- these names are among those
abbrev pub AreOwn : Marking → List Name → Type 0
AreOwn marking names = (name : Name) → is_among names name ≡ true → is_among (marking_names marking) name ≡ true
