-- The latest run of a job name.
use Rattle.std.specs.Prelude.{ℕ, Bool, ◌&&◌, if◌then◌else◌, List, take, Option, None, Some}
use Rattle.std.specs.List.{last_or}
use Rattle.std.specs.Option.{option_and_then}
use Rattle.ckr_library.specs.NameMaps.{Name, same_name}
use Rattle.ckr_points.specs.RuleCases.{selected_runs, was_selected}
use Rattle.ckr_points.specs.Rows.{RunRow}

-- whether a run has this job name and was ever selected
abbrev pub is_selected_as : Name → RunRow → Bool
is_selected_as name row = was_selected row && same_name row.deck.name name

-- the run, if it is so
abbrev pub selected_among : Name → Option RunRow → Option RunRow
selected_among name found = option_and_then (λ row. if is_selected_as name row then Some row else None) found

-- the latest run of a job name among so many runs
abbrev pub latest_before : Name → ℕ → List RunRow → Option RunRow
latest_before name count runs = last_or None (selected_runs name (take count runs))
