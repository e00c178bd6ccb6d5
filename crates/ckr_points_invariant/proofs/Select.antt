pub mod Invariant
pub mod Holders
