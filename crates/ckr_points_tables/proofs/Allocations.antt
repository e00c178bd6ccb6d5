pub mod Parts
pub mod Step
