pub mod Beginning
pub mod Changed
pub mod Kept
pub mod Merged
pub mod Standing
