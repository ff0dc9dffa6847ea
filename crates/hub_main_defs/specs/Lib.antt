pub mod Words
pub mod Faults
pub mod Checks
pub mod Hubs
pub mod Samples
pub mod Commands
