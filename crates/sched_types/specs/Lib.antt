pub mod Timetable
pub mod Departures
pub mod Runs
pub mod Sound
pub mod Parts
pub mod Schedules
pub mod City
