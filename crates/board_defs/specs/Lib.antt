pub mod Fold
pub mod Feeds
pub mod Choice
pub mod Rows
pub mod Feed
pub mod Views
