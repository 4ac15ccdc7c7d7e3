pub mod Cutting
pub mod Among
pub mod Shelved
pub mod Orders
pub mod Runs
pub mod Chained
pub mod ChainShelves
