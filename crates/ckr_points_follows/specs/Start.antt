-- Whether a step of a run starts with the items of its event.
use Rattle.std.specs.Prelude.{ℕ, ◌&&◌, Bool, false, List}
use Rattle.std.specs.Option.{option_map_or}
use Rattle.ckr_events.specs.declared.event.Made.{Made}
use Rattle.ckr_meaning.specs.EffectiveJob.{OwnedStep, flaws_in, placed_in, stamp_of}
use Rattle.ckr_points.specs.Follows.{are_items, is_empty, may_start}
use Rattle.ckr_points.specs.Restart.{place_of}
use Rattle.ckr_points.specs.Rows.{RunRow, TablesModel, standing_of, step_of_run, table_ways}
use Rattle.ckr_volumes.specs.declared.layout.Layout.{Layout}

-- the run is before the step, no DD is refused, and the items are those of what the step makes
abbrev pub starts_as : Layout → TablesModel → ℕ → List Made → RunRow → OwnedStep → Bool
starts_as layout tables step items row owned =
    let placed = placed_in table_ways (standing_of row tables) row.job.root owned in
    may_start step (place_of row) && is_empty (flaws_in placed) && are_items layout (stamp_of owned step) tables.sets placed items

abbrev pub starts : Layout → TablesModel → ℕ → List Made → RunRow → Bool
starts layout tables step items row = option_map_or (starts_as layout tables step items row) (step_of_run row step) false
