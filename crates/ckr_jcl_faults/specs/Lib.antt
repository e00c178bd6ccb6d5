pub mod Faults
pub mod DeckText
pub mod DdFaults
