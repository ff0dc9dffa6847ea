pub mod Unprefixed
pub mod Spelling
pub mod Repeated
pub mod Entities
