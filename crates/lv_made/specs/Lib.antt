pub mod Limits
pub mod Views
