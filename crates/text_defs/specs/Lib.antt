pub mod Numbers
pub mod Dates
pub mod Times
pub mod Names
pub mod Cleaned
pub mod Moments
