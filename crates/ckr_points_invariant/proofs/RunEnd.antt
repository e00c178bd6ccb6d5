pub mod Invariant
pub mod Event
