pub mod Log
pub mod Rules
pub mod Told
pub mod Authors
