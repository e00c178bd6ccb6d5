-- Worked events and runs, computed.
pub mod Jobs
pub mod Rules
pub mod Restarts
