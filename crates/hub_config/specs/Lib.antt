pub mod Seen
pub mod Answer
