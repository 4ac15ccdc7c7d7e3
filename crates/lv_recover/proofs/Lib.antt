pub mod FreshStores
pub mod OneWay
pub mod Places
pub mod Told
pub mod Whole
