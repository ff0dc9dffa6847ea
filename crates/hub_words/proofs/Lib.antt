pub mod Leaves
pub mod Commands
pub mod Told
pub mod Rules
