-- Which names the steps of a run made, by the step points of the runs that own them.
use Rattle.std.specs.Prelude.{◌≡◌, ℕ, suc, pred, Bool, false, ◌&&◌, ◌||◌, List, [], ◌∷◌, length, map, slice_get, take, Option, None, Some}
use Rattle.std.specs.Option.{option_and_then, option_map_or}
use Rattle.ckr_library.specs.NameMaps.{Name}
use Rattle.ckr_meaning.specs.EffectiveJob.{OwnedStep, is_among, names_of}
use Rattle.ckr_points.specs.Marks.{is_marked_absent, point_at}
use Rattle.ckr_points.specs.Rows.{StartPoint}
use Rattle.ckr_points_runs.specs.declared.run_table.RunTable.{RunTable}
use Rattle.ckr_points_runs.specs.View.{place_of, point_of}

-- the step points of each run, by its number
abbrev pub RunPoints : Type 0
RunPoints = ℕ → List StartPoint

abbrev pub points_of : RunTable → List StartPoint
points_of table = map point_of table.points.items

-- the table of the run of this number
abbrev pub table_of_run : List RunTable → ℕ → Option RunTable
table_of_run tables number = option_and_then (slice_get tables) (place_of number)

-- those that the tables have; none of a run that isn't there
abbrev pub points_in : List RunTable → RunPoints
points_in tables number = option_map_or points_of (table_of_run tables number) []

-- whether the step of this number made a name: its step point marks it absent
abbrev pub made_at : List StartPoint → ℕ → Name → Bool
made_at points step name = option_map_or (λ (point : StartPoint). is_marked_absent point.marks name) (point_at points step) false

-- whether the step of this number made a name, by the points of the run that owns it
abbrev pub made_by : RunPoints → ℕ → ℕ → Name → OwnedStep → Bool
made_by points root number name own = is_among (names_of root own) name && made_at (points own.owner) number name

-- whether one of these steps made a name, the first of this number
abbrev pub made_in : RunPoints → ℕ → ℕ → List OwnedStep → Name → Bool
made_in points root number [] name = false
made_in points root number (own ∷ steps) name = made_by points root number name own || made_in points root (suc number) steps name

-- whether a step made it, for each name of a step
abbrev pub made_flags : ℕ → List StartPoint → ℕ → OwnedStep → List Bool
made_flags root points step own = map (made_at points step) (names_of root own)

-- whether one of the steps before it made it, for each name of a step
abbrev pub earlier_flags : RunPoints → ℕ → List OwnedStep → ℕ → OwnedStep → List Bool
earlier_flags points root steps step own = map (made_in points root 1 (take (pred step) steps)) (names_of root own)

-- one flag for each name of a step, if there is one
abbrev pub HasFlags : ℕ → List Bool → Option OwnedStep → Type 0
HasFlags root flags None = Unit {0}
HasFlags root flags (Some own) = length flags ≡ length (names_of root own)
