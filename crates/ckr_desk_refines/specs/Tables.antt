-- The definitions of the tables that the crate above cites, handed on.
pub use Rattle.ckr_desk_entries.specs.Tables.Checkpoint
pub use Rattle.ckr_desk_entries.specs.Tables.Entries
pub use Rattle.ckr_desk_memory.specs.Model.Invariant
pub use Rattle.ckr_desk_memory.specs.Model.View
