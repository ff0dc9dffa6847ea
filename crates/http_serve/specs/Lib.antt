pub mod Setting
pub mod Views
pub mod Replies
pub mod Notes
pub mod Headings
pub mod Serves
pub mod Turns
pub mod Transcript
