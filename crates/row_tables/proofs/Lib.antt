pub mod Keyed
pub mod Numbered
pub mod Faults
pub mod Places
