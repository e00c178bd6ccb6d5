-- What the allocation of a step of a run comes to, and what it needs of the run.
use Rattle.std.specs.Prelude.{◌≡◌, ◌≤◌, ℕ, IsTrue, Some, Result, Ok, Err}
use Rattle.std.specs.List.{list_all}
use Rattle.arrayvec.specs.ArrayVec.{ArrayVec}
use Rattle.ckr_points_library.specs.declared.cause.Refusal.{Refusal}
use Rattle.ckr_points_library.specs.Allocation.{Allocation, allocated_all}
use Rattle.ckr_points_library.specs.AllocationSteps.{fits_named}
use Rattle.ckr_events.specs.declared.event.Made.{Made}
use Rattle.ckr_meaning.specs.EffectiveJob.{OwnedStep, name_of, placed_in, stamp_of}
use Rattle.ckr_points.specs.Rows.{RunRow, TablesModel, holding_of, run_of, standing_of, step_of_run, table_ways}
use Rattle.ckr_volumes.specs.declared.layout.Layout.{Layout}
use Rattle.ckr_points_runs.specs.View.{seen_by}

-- the new parts of an allocation, or its refusal
abbrev pub IsAllocation : Result Allocation Refusal → Result (ArrayVec Made) Refusal → Type 0
IsAllocation (Ok done) (Ok made) = made.items ≡ done.items
IsAllocation (Ok done) (Err refusal) = ⊥
IsAllocation (Err refusal) (Ok made) = ⊥
IsAllocation (Err refusal) (Err other) = other ≡ refusal

-- the allocation of a step of a run, by the data sets of the tables
abbrev pub allocation_in : Layout → RunRow → OwnedStep → ℕ → TablesModel → Result Allocation Refusal
allocation_in layout row owned number tables =
    allocated_all layout (stamp_of owned number) (placed_in table_ways (standing_of row tables) row.job.root owned) (seen_by holding_of tables.sets)

-- the DDs of a step are such as a deck gives
abbrev pub HasFitting : ℕ → OwnedStep → Type 0
HasFitting root owned = IsTrue (list_all (fits_named (name_of root owned)) owned.step.dds)

-- so are those of the step of a run, if there is such a step
abbrev pub MayAllocate : ℕ → ℕ → TablesModel → Type 0
MayAllocate job number tables =
    (row : RunRow) (owned : OwnedStep) → run_of tables job ≡ Some row → step_of_run row number ≡ Some owned → HasFitting row.job.root owned

-- a DD's number is from one on
abbrev pub IsFromOne : Made → Type 0
IsFromOne made = 1 ≤ made.dd
