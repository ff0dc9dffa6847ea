pub mod Views
pub mod Plays
pub mod Rule
pub mod Seen
