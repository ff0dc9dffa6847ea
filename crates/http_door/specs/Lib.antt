pub mod Visits
pub mod Doors
