pub mod Steps
pub mod Names
pub mod NewStep
pub mod Sets
pub mod ProgramSets
