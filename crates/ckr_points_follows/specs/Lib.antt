pub mod Checkpoint
pub mod RewriteCounts
pub mod DeckConflicts
pub mod Lengths
pub mod Rewrite
pub mod Start
pub mod Model
