pub mod Changes
pub mod Kept
pub mod Applied
pub mod OneHistory
