pub mod Delays
pub mod Line
