pub mod Left
pub mod Once
pub mod Places
