pub mod Telling
pub mod LoadedPlans
pub mod Stopping
