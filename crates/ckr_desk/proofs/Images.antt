pub mod Records
pub mod NextEvent
pub mod Rewrite
pub mod LastRecord
pub mod Soundness
pub mod Entries
pub mod WrittenRecord
