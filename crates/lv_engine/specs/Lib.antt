pub mod Alone
pub mod Answering
pub mod Committing
pub mod Fresh
pub mod Kept
pub mod Records
pub mod Writing
