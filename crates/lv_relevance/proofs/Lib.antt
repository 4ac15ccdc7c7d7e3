pub mod UsedColumns
pub mod Balance
pub mod ToldParts
pub mod Untold
pub mod LettingGo
pub mod Updates
pub mod AmongColumns
mod Examples
