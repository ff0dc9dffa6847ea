pub mod Spelt
pub mod Lengths
pub mod Faults
pub mod Varints
pub mod Nested
pub mod Lists
pub mod Rows
