pub mod Gathered
pub mod Entries
