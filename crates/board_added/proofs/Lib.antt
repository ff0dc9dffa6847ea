pub mod Outdone
pub mod Adding
