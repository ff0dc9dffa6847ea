pub mod Merge
pub mod Bids
pub mod Offered
pub mod Departures
pub mod Orders
pub mod Sources
pub mod Queued
pub mod Board
