pub mod Subjects
pub mod Aims
pub mod FeedAlerts
