pub mod Pairs
pub mod Sent
pub mod Newer
