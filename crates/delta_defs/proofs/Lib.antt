pub mod Examples
pub mod IdOrder
pub mod Told
pub mod Applying
pub mod Tables
pub mod OneHistory
