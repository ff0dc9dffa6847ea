pub mod Bytes
pub mod Again
