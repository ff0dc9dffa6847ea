pub mod Optional
pub mod Texts
pub mod Lines
pub mod Record
pub mod Output
pub mod Examples
