pub mod PlaceSearch
pub mod FirstWritten
pub mod Noting
pub mod Sessions
pub mod SessionChanged
