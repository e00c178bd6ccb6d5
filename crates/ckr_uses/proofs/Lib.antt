pub mod Conflicts
pub mod MergedUses
pub mod RunNames
pub mod SingleNames
pub mod Qualifiers
pub mod SharedNames
