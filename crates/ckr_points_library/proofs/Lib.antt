pub mod SetChanges
pub mod FreeSpace
pub mod Meaning
pub mod Openings
pub mod DdPlaces
pub mod AllocationSteps
