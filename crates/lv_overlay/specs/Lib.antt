pub mod Puts
pub mod Ordered
pub mod PlaceOrder
