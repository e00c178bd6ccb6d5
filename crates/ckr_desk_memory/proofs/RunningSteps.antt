pub mod First
pub mod Served
pub mod Entries
pub mod Again
pub mod TakenSteps
pub mod Codes
pub mod Events
