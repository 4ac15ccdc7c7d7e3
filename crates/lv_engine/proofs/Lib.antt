pub mod AloneWrites
pub mod Logged
pub mod Marked
pub mod NoneLeft
pub mod OneWorld
pub mod Wrapped
pub mod Writes
