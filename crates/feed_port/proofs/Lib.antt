pub mod Pieces
pub mod Framing
pub mod Handing
pub mod Spooled
pub mod StreamCases
