pub mod Lines
pub mod Wrote
