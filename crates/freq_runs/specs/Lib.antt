pub mod Trips
pub mod Faults
pub mod Known
