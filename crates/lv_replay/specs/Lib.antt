pub mod Applies
pub mod Numbers
pub mod Replayed
pub mod Runs
