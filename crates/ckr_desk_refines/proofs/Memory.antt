-- The lemmas on the jobs in memory that the crate above cites, handed on.
pub use Rattle.ckr_desk_memory.proofs.AcceptedDecks
pub use Rattle.ckr_desk_memory.proofs.EntryModels
pub use Rattle.ckr_desk_memory.proofs.Holders.LeftRuns
pub use Rattle.ckr_desk_memory.proofs.Holders.OwnUnits
pub use Rattle.ckr_desk_memory.proofs.Holders.Rooms
pub use Rattle.ckr_desk_memory.proofs.Holders.Units
pub use Rattle.ckr_desk_memory.proofs.Masters
pub use Rattle.ckr_desk_memory.proofs.Replays
pub use Rattle.ckr_desk_memory.proofs.RewriteCounts
pub use Rattle.ckr_desk_memory.proofs.RunNumbers
pub use Rattle.ckr_desk_memory.proofs.RunningSteps.Served
