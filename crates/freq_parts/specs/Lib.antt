pub mod Conditions
pub mod Differ
pub mod Joined
