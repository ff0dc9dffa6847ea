pub mod Events
pub mod Fields
pub mod Noting
pub mod Numbers
mod Together
