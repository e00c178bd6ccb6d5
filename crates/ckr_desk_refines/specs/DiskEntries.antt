-- The definitions of the entries on the disk that the crate above cites, handed on.
pub use Rattle.ckr_desk_entries.specs.Continuation
pub use Rattle.ckr_desk_entries.specs.Entries
pub use Rattle.ckr_desk_entries.specs.EntryRefusal
pub use Rattle.ckr_desk_entries.specs.KeptPoint
pub use Rattle.ckr_desk_entries.specs.declared.error.ReadError
pub use Rattle.ckr_desk_entries.specs.declared.step_state.StepState
