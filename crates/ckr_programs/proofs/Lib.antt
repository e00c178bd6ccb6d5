pub mod InputRecords
pub mod OutputRecords
pub mod Ranges
pub mod UnitResults
pub mod AllUnits
