-- The marks of points, and the put back.
use Rattle.std.specs.Prelude.{ℕ, pred, ◌==◌, Bool, true, false, ◌&&◌, not, nat_le, nat_lt, if◌then◌else◌, List, [], ◌∷◌, map, filter, find, flat_map, drop, Option, None}
use Rattle.std.specs.Option.{option_map, option_map_or, is_none}
use Rattle.std.specs.List.{filter_map}
use Rattle.ckr_jcl.specs.declared.deck.Job.{Job}
use Rattle.ckr_jcl.specs.declared.deck.Origin.{Origin}
use Rattle.ckr_jcl.specs.declared.deck.Origin.TheVariants.{InStream, Named as NamedOrigin, Temporary, Unnamed, Sysout, Dummy}
use Rattle.ckr_library.specs.declared.sets.Part.{Part}
use Rattle.ckr_library.specs.declared.sets.Stamp.{Stamp}
use Rattle.ckr_library.specs.NameMaps.{Name, Named, same_name, entry_at, with_entry, with_changed, without_entry}
use Rattle.ckr_entry.specs.declared.point.Passed.{Passed}
use Rattle.ckr_meaning.specs.EffectiveJob.{OwnedStep, owned_by, name_of, names_of, names_of_steps, names_of_job, is_among}
use Rattle.ckr_entry.specs.declared.point.Mark.{Mark}
use Rattle.ckr_entry.specs.declared.point.Present.{Present}
use Rattle.ckr_points.specs.Rows.{TableSet, StartPoint, RunRow, table_ways, cut_set}

abbrev pub first_volume : List Part → ℕ
first_volume [] = 0
first_volume (part ∷ parts) = part.volume

-- what a mark says of a data set that is there
abbrev pub present_of : TableSet → Present
present_of table = record {
  volume = first_volume table.set.parts.items;
  lrecl = table.set.lrecl;
  space = table.set.space;
  length = table.set.length;
  cataloged = table.set.cataloged;
  stamp = table.set.stamp;
}

-- a name as the tables are
abbrev pub mark_now : Named TableSet → Name → Mark
mark_now sets name = record { name = name; present = option_map present_of (entry_at sets name) }

-- a name's mark among marks
abbrev pub mark_at : List Mark → Name → Option Mark
mark_at marks name = find (λ mark. same_name name mark.name) marks

-- what a point has of a name: nothing where it has no mark, or marks it absent
abbrev pub present_at : List Mark → Name → Option Present
present_at marks name = option_map_or (λ mark. mark.present) (mark_at marks name) None

-- whether a point marks a name absent
abbrev pub is_marked_absent : List Mark → Name → Bool
is_marked_absent marks name = option_map_or (λ mark. is_none mark.present) (mark_at marks name) false

abbrev pub marked_under : (Name → Mark) → List Name → Named Mark
marked_under mark [] = []
marked_under mark (name ∷ names) = with_entry name (mark name) (marked_under mark names)

-- one mark for each of the names, ascending
abbrev pub marks_for : (Name → Mark) → List Name → List Mark
marks_for mark names = map (λ entry. entry.1) (marked_under mark names)

-- the step point of a step
abbrev pub point_at : List StartPoint → ℕ → Option StartPoint
point_at points step = find (λ point. point.step == step) points

abbrev pub with_point : StartPoint → List StartPoint → List StartPoint
with_point point [] = point ∷ []
with_point point (first ∷ rest) =
    if point.step == first.step then point ∷ rest
    else (if nat_lt point.step first.step then point ∷ first ∷ rest else first ∷ with_point point rest)

-- the names of the steps that a run executes itself
abbrev pub own_names : RunRow → List Name
own_names row = names_of_steps row.job.root (drop (pred row.earlier_step) row.job.steps)

-- the marks of the point from which a run was continued
abbrev pub carried_marks : RunRow → List Mark
carried_marks row = option_map_or (λ point. point.marks) (point_at row.points row.earlier_step) []

-- the marks of a point of a run now: own names as the tables are, others carried over
abbrev pub marks_now : RunRow → Named TableSet → List Mark
marks_now row sets =
    marks_for
    (λ name.
    if is_among (own_names row) name then mark_now sets name
    else option_map_or (λ mark. mark) (mark_at (carried_marks row) name) (mark_now sets name))
    (names_of_job row.job)

abbrev pub is_sysout : Origin → Bool
is_sysout (InStream cards) = false
is_sysout (NamedOrigin name) = false
is_sysout (Temporary name) = false
is_sysout Unnamed = false
is_sysout Sysout = true
is_sysout Dummy = false

-- the SYSOUT names of a step
abbrev pub sysout_names : ℕ → OwnedStep → List Name
sysout_names root owned = filter_map (name_of root owned) (filter (λ dd. is_sysout dd.origin) owned.step.dds)

-- the names that the step of a step point made: its point marks them absent
abbrev pub made_names : List Mark → List Name → List Name
made_names marks names = filter (is_marked_absent marks) names

abbrev pub removed_all : List Name → Named TableSet → Named TableSet
removed_all [] sets = sets
removed_all (name ∷ names) sets = removed_all names (without_entry name sets)

-- a length put back never grows
abbrev pub put_back_length : ℕ → TableSet → TableSet
put_back_length most table = if nat_le most table.set.length then cut_set most table else table

abbrev pub put_back_lengths : List Mark → List Name → Named TableSet → Named TableSet
put_back_lengths marks [] sets = sets
put_back_lengths marks (name ∷ names) sets =
    put_back_lengths marks names (option_map_or (λ present. with_changed name (put_back_length present.length) sets) (present_at marks name) sets)

abbrev pub put_back_catalogs : List Mark → List Name → Named TableSet → Named TableSet
put_back_catalogs marks [] sets = sets
put_back_catalogs marks (name ∷ names) sets =
    put_back_catalogs marks names (option_map_or (λ present. with_changed name (table_ways.marked present.cataloged) sets) (present_at marks name) sets)

-- lengths of the outputs and catalog marks of needed names as the point has them
abbrev pub put_back : List Mark → List Name → List Name → Named TableSet → Named TableSet
put_back marks outputs needed sets = put_back_catalogs marks needed (put_back_lengths marks outputs sets)

abbrev pub same_stamp : Stamp → Stamp → Bool
same_stamp first second =
    first.run == second.run && first.step == second.step && first.rewrites == second.rewrites

abbrev pub same_mark : Bool → Bool → Bool
same_mark true second = second
same_mark false second = not second

-- whether a data set has the stamp, the length and the catalog mark of a mark
abbrev pub is_as_marked : TableSet → Present → Bool
is_as_marked table present =
    same_stamp table.set.stamp present.stamp && table.set.length == present.length && same_mark table.set.cataloged present.cataloged

-- the names of a run's submitted deck, SYSCHK's not among them
abbrev pub deck_names : ℕ → ℕ → Job → List Name
deck_names root run deck = flat_map (λ step. names_of root (owned_by run deck step)) deck.steps

-- whether a passed name of a point still exists
abbrev pub still_exists : List Mark → List Name → Named TableSet → Name → Bool
still_exists marks named sets name =
    is_among named name
    && option_map_or (λ present. option_map_or (λ table. is_as_marked table present) (entry_at sets name) false) (present_at marks name) false

-- the passed names of a point that no longer exist
abbrev pub lost_names : List Mark → List Name → Named TableSet → List Passed → List Name
lost_names marks named sets passed = map (λ entry. entry.name) (filter (λ entry. not (still_exists marks named sets entry.name)) passed)

-- a passed list without some names
abbrev pub without_passed : List Name → List Passed → List Passed
without_passed lost passed = filter (λ entry. not (is_among lost entry.name)) passed

-- what a run itself has of the passed list of its job
abbrev pub has_passed : RunRow → List Passed
has_passed row = without_passed row.lost row.passed
