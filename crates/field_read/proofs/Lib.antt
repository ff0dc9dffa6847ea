pub mod Faults
pub mod Noting
pub mod Occurrences
pub mod Steps
pub mod Texts
