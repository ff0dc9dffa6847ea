pub mod Names
pub mod Values
pub mod Tables
pub mod Files
pub mod Examples
pub mod Reading
pub mod Layout
pub mod StopTimes
