pub mod WithinStep
pub mod Units
pub mod Initiator
pub mod Series
pub mod Due
pub mod Verdicts
pub mod Operator
pub mod Outcomes
