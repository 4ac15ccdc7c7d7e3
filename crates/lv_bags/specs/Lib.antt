pub mod Bags
pub mod Tallies
