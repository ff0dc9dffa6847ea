pub mod Lines
pub mod BoardText
pub mod BoardJson
pub mod Alerts
pub mod Status
pub mod UnmatchedText
pub mod Answers
pub mod Asked
