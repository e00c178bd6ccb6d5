pub mod Disposal
pub mod SetNames
pub mod Uses
