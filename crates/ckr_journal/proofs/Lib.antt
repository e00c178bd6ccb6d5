pub mod FreshDisks
pub mod FormatStages
