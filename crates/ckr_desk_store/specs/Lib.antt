pub mod Answers
pub mod OpenImages
pub mod State
