pub mod Sums
pub mod Runs
pub mod Groupings
pub mod Bounds
pub mod GroupRows
pub mod Regroups
