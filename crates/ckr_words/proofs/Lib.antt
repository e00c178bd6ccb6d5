pub mod Steps
pub mod Views
pub mod Leaves
pub mod RunWords
pub mod FormatWords
pub mod MakeWords
pub mod LineWords
pub mod ClapAnswers
mod Rows
pub mod SummaryLemmas
