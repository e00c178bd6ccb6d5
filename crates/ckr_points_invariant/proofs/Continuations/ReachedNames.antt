pub mod Statements
pub mod OwnSteps
pub mod DeckNames
pub mod OtherHolders
pub mod NamesBehind
