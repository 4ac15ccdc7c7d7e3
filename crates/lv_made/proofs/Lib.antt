pub mod AddedTasks
pub mod AnyOrder
pub mod Distinct
pub mod FirstFull
pub mod Shown
