pub mod PackedLines
pub mod StatementHeads
pub mod Decks
