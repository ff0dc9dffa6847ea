pub mod Told
pub mod Configuring
pub mod Stops
