pub mod StepNames
pub mod Rules
pub mod EarlierRuns
pub mod Permissions
pub mod Desks
pub mod Turns
pub mod Plans
