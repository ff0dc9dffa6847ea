pub mod Seats
pub mod Kept
pub mod Calls
pub mod Feeding
