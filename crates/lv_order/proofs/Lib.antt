pub mod Answered
pub mod Counting
pub mod Due
pub mod Once
pub mod Rounds
