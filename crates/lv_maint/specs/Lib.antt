pub mod Alone
pub mod Inputs
pub mod Pairs
pub mod Runs
pub mod Terms
