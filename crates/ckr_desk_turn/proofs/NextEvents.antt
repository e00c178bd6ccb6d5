pub mod BetweenSteps
pub mod Holders
pub mod WithinStep
