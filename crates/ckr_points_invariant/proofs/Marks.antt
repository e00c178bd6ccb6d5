pub mod Changes
pub mod Points
