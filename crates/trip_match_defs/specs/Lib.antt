pub mod Texts
pub mod Matching
pub mod Autumn
pub mod Frequent
