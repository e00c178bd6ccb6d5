pub mod Lengths
pub mod Holders
pub mod HeldNames
pub mod ContinuedRuns
pub mod Reaches
pub mod Lines
mod Examples
