pub mod Buffers
pub mod Bytes
pub mod Finding
pub mod Passing
pub mod Reading
pub mod Standing
