pub mod Counts
pub mod Event
pub mod Invariant
pub mod Sets
