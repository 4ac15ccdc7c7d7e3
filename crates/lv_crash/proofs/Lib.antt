pub mod Applying
pub mod Follows
pub mod Keeps
pub mod Staying
