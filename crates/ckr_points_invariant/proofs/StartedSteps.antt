pub mod ReturnCodes
pub mod Kin
pub mod Runs
pub mod Offices
pub mod Rows
pub mod StepEvents
pub mod RunEvents
pub mod SoundEvents
