mod Blocks
mod DiskCalls
pub mod Fronts
