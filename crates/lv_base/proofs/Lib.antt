pub mod Added
pub mod Begins
pub mod NetChanges
pub mod Places
pub mod Prepared
pub mod Reindexed
pub mod Spared
pub mod Told
