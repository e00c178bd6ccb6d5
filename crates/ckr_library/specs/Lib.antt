pub mod Catalog
pub mod Fronts
pub mod NameMaps
pub mod Places
pub mod Shelves
pub mod Spread
