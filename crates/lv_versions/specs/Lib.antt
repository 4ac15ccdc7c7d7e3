pub mod Ranks
pub mod Versions
