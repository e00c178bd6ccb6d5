pub mod Requests
pub mod Feeds
pub mod End
pub mod Servings
pub mod Steps
pub mod Pieces
pub mod Texts
pub mod Totals
