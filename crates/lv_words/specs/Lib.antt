pub mod Line
pub mod Range
pub mod Values
pub mod Words
