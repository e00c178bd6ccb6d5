pub mod Allocation
pub mod Commit
pub mod Disposals
pub mod FreeSpace
pub mod Holdings
pub mod AllocationSteps
pub mod Outputs
