pub mod Files
pub mod Units
pub mod Inputs
pub mod Writes
pub mod StepUnit
pub mod Places
pub mod EntryRecords
