pub mod EntryReads
pub mod DiskReads
pub mod LibrarySets
pub mod EntryRefusals
pub mod PlacedEntries
pub mod KeptPoints
pub mod Continuations
