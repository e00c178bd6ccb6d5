pub mod Soundness
pub mod EntryWrites
