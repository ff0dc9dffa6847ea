pub mod Draws
pub mod Network
pub mod Messages
pub mod Run
