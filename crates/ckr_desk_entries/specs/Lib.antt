pub mod EntryRefusal
pub mod Entries
pub mod KeptPoint
pub mod Continuation
pub mod Tables
