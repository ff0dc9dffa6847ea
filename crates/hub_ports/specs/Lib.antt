pub mod Dials
pub mod Lines
pub mod News
pub mod Opened
pub mod Pacing
pub mod Reading
pub mod SystemPorts
