pub mod Again
pub mod Decimals
pub mod Digits
pub mod Loops
pub mod Takes
