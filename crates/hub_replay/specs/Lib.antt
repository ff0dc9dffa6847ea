pub mod Feeds
pub mod Records
pub mod Steps
pub mod Outcome
