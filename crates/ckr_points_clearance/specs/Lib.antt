pub mod Clearance
pub mod Stretches
pub mod Placements
pub mod Start
