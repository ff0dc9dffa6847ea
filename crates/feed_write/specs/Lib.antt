pub mod Puts
pub mod Entities
