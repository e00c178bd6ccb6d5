-- Decks and PARMs, computed.
pub mod Rows
pub mod Refusals
pub mod Choices
pub mod Parms
pub mod Operands
