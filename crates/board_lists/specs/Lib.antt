pub mod Active
pub mod Answers
