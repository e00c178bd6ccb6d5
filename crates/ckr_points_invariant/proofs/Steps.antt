pub mod Commits
pub mod Events
pub mod Walks
