pub mod Disposals
pub mod Invariant
