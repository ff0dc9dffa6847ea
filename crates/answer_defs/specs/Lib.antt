pub mod Steps
pub mod Choices
pub mod Defined
