pub mod Answers
pub mod Line
pub mod Matches
pub mod Summaries
pub mod Words
