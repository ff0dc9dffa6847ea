pub mod Slots
pub mod Index
pub mod Left
pub mod First
pub mod Stand
pub mod Gathered
pub mod Flat
