pub mod Walks
pub mod Looks
pub mod Appended
pub mod Whole
