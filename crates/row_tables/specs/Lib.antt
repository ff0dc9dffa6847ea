pub mod Alone
pub mod Order
