pub mod Answers
pub mod Accepted
pub mod Refusals
pub mod Replay
pub mod Lengths
pub mod LastRecord
pub mod Points
pub mod NextPoints
pub mod RecordTest
pub mod Trust
pub mod FreshDisks
pub mod DeckRecords
mod LongRecords
pub mod Syncs
