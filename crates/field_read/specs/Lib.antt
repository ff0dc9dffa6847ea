pub mod Causes
pub mod Occurring
