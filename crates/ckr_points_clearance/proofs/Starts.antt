pub mod Spans
pub mod Clearance
pub mod ItemNames
pub mod Placements
pub mod Stretches
pub mod DdOrder
pub mod Tests
