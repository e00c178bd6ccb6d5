-- The definitions below this crate that its clauses cite, handed on to the crates above: the tables in memory, and the data sets of a step.
pub use Rattle.ckr_desk_plans.specs.declared.checkpoint.Checkpoint
pub use Rattle.ckr_desk_plans.specs.Model.RewriteCounts
pub use Rattle.ckr_desk_plans.specs.Model.Holdings
pub use Rattle.ckr_desk_plans.specs.Model.Cause
pub use Rattle.ckr_desk_plans.specs.Model.Refusal
pub use Rattle.ckr_points_tables.specs.Invariant
pub use Rattle.ckr_points_tables.specs.RunJobs
pub use Rattle.ckr_points_tables.specs.RunRows
pub use Rattle.ckr_points_tables.specs.View
pub use Rattle.ckr_points_tables.specs.Model.RunTable
