pub mod Digits
pub mod Finding
pub mod Forms
pub mod Plain
pub mod Reading
pub mod Rows
pub mod Rules
pub mod Turns
