pub mod Openings
pub mod Invariant
pub mod Event
