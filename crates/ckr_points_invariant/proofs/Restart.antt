pub mod Libraries
pub mod Invariant
pub mod Points
pub mod Verdicts
pub mod Event
