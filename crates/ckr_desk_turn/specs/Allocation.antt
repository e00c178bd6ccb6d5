-- The allocation of a step of a run, by the data sets of the tables.
use Rattle.std.specs.Prelude.{ℕ, List, Result, Ok, Err}
use Rattle.ckr_points_library.specs.declared.cause.Cause.{Cause}
use Rattle.ckr_points_library.specs.declared.cause.Cause.TheVariants.{Missing, Exists, WrongKind, WrongVolume, NoVolume, NoSpace, Units, MountRefused}
use Rattle.ckr_points_library.specs.declared.cause.Refusal.{Refusal}
use Rattle.ckr_points_library.specs.Allocation.{Allocation, allocated_all}
use Rattle.ckr_events.specs.declared.event.Made.{Made}
use Rattle.ckr_meaning.specs.EffectiveJob.{OwnedStep, placed_in, stamp_of}
use Rattle.ckr_points.specs.Rows.{RunRow, TablesModel, standing_of, table_ways}
use Rattle.ckr_volumes.specs.declared.layout.Layout.{Layout}
use Rattle.ckr_points.specs.Staleness.{held_sets}

abbrev pub items_in : Result Allocation Refusal → Result (List Made) Refusal
items_in (Ok done) = Ok done.items
items_in (Err refusal) = Err refusal

-- the new parts of a step's data sets, or the first DD that isn't allocated
abbrev pub allocation_of : Layout → RunRow → OwnedStep → ℕ → TablesModel → Result (List Made) Refusal
allocation_of layout row owned number tables =
    items_in (allocated_all layout (stamp_of owned number) (placed_in table_ways (standing_of row tables) row.job.root owned) (held_sets tables.sets))

-- the number of a cause in an event, and its two numbers
abbrev pub cause_numbers : Cause → ℕ × ℕ × ℕ
cause_numbers Missing = (1, 0, 0)
cause_numbers Exists = (2, 0, 0)
cause_numbers WrongKind = (3, 0, 0)
cause_numbers WrongVolume = (4, 0, 0)
cause_numbers NoVolume = (5, 0, 0)
cause_numbers (NoSpace need free) = (6, need, free)
cause_numbers (Units need units) = (7, need, units)
cause_numbers (MountRefused volume) = (8, volume, 0)
