pub mod Examples
pub mod NeededNames
pub mod StaleNames
pub mod SyschkSets
pub mod StepNames
