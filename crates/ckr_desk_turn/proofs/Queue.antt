pub mod Select
pub mod Changes
pub mod Events
