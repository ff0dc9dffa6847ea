pub mod Documents
pub mod Judging
pub mod Rows
pub mod Views
