pub mod Exact
pub mod ExactTables
pub mod Wholes
mod Powers
mod Utf8
