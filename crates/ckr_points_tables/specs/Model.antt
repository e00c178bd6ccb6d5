-- The types of what the tables keep of a run, which stand below this crate, handed on to the crates above.
pub use Rattle.ckr_points_runs.specs.declared.own_step.OwnStep
pub use Rattle.ckr_points_runs.specs.declared.run_table.InEffect
pub use Rattle.ckr_points_runs.specs.declared.run_table.RunTable
pub use Rattle.ckr_points_runs.specs.declared.run_table.StepPoint
