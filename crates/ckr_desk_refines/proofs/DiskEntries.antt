-- The lemmas on the entries on the disk that the crate above cites, handed on.
pub use Rattle.ckr_desk_entries.proofs.DiskReads
pub use Rattle.ckr_desk_entries.proofs.LibrarySets
pub use Rattle.ckr_desk_entries.proofs.PlacedEntries
