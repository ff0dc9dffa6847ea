pub mod Fronts
mod Cells
pub mod Logs
mod Moves
