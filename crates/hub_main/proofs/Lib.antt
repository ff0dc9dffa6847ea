pub mod Commands
pub mod Asked
pub mod FirstAnswers
pub mod Exits
pub mod Sharing
