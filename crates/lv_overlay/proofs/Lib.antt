pub mod Places
pub mod Cutting
pub mod Counting
pub mod Writing
pub mod RowsOver
pub mod OwnRows
pub mod MergeSteps
