pub mod Links
pub mod Reach
pub mod Cost
pub mod Far
pub mod Walk
pub mod Questions
pub mod Found
pub mod Within
