pub mod Bytes
pub mod Meaning
pub mod Reading
pub mod Standing
pub mod Steps
