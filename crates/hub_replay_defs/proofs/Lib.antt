pub mod Options
pub mod Lines
pub mod Payloads
pub mod Turns
pub mod Runs
pub mod Opens
pub mod Waiting
pub mod CityScripts
mod Declared
pub mod Connections
