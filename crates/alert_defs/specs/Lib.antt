pub mod Touching
pub mod Alerts
pub mod Unmatched
