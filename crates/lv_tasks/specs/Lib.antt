pub mod Kept
pub mod Queues
