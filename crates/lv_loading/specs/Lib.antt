pub mod Loads
pub mod Making
pub mod Taking
