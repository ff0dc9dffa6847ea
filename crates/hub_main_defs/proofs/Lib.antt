pub mod Examples
mod CityCommands
pub mod Told
pub mod Hubs
