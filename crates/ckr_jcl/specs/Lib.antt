pub mod Text
pub mod ParmGrammar
pub mod Programs
pub mod Qualifiers
