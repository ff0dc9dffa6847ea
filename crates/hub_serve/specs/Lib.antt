pub mod Ties
pub mod Words
pub mod Feeds
pub mod Readers
pub mod Runs
pub mod Steps
