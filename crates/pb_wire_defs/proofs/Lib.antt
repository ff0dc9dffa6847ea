pub mod Bytes
pub mod Numbers
pub mod Tags
pub mod Shorter
pub mod Groups
pub mod Found
pub mod Again
