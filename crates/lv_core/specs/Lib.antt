pub mod Actors
pub mod Answering
pub mod Run
pub mod Slots
