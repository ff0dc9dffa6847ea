pub mod Ports
pub mod Memory
pub mod Frames
pub mod Streams
pub mod Spools
pub mod Spooling
