pub mod Kept
pub mod Moves
pub mod Stands
