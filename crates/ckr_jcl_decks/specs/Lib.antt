pub mod DeckFaults
pub mod Deck
pub mod MetNames
pub mod ReaderErrors
pub mod Least
pub mod Parts
