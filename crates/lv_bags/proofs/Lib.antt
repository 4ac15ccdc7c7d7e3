pub mod Tallies
pub mod AddedUp
pub mod Placing
pub mod SumsAdded
pub mod Negations
