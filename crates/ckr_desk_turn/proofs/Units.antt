pub mod Outputs
pub mod Invariant
pub mod Progress
pub mod LastUnit
pub mod AnyUnit
