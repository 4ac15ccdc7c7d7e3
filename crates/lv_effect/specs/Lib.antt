pub mod Answered
pub mod Bounds
pub mod FixedKeys
pub mod Seen
pub mod Sums
pub mod TableActions
