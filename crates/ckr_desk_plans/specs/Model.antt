-- The definitions below this crate that clauses of the crates above cite, handed on: which rewrites can be counted, what a step does to the library, and
-- the units of a running step.
pub use Rattle.ckr_points_follows.specs.RewriteCounts
pub use Rattle.ckr_points_library.specs.Allocation
pub use Rattle.ckr_points_library.specs.Commit
pub use Rattle.ckr_points_library.specs.Holdings
pub use Rattle.ckr_points_library.specs.declared.cause.Cause
pub use Rattle.ckr_points_library.specs.declared.cause.Refusal
pub use Rattle.ckr_steps.specs.Files
pub use Rattle.ckr_steps.specs.Inputs
pub use Rattle.ckr_steps.specs.Places
pub use Rattle.ckr_steps.specs.StepUnit
pub use Rattle.ckr_steps.specs.Units
pub use Rattle.ckr_steps.specs.Writes
