pub mod InputOrder
pub mod Images
pub mod State
pub mod Master
pub mod Work
pub mod Steps
pub mod Units
