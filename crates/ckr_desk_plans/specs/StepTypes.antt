-- The types of a running step's program, of its files and of its units, which stand below this crate, handed on to the crates above.
pub use Rattle.ckr_steps.specs.declared.files.Files
pub use Rattle.ckr_steps.specs.declared.files.RecordSource
pub use Rattle.ckr_steps.specs.declared.step_run.StepRun
pub use Rattle.ckr_steps.specs.declared.step_run.Worked
pub use Rattle.ckr_steps.specs.declared.unit_ahead.UnitAhead
