pub mod Opened
pub mod Finishing
pub mod Lines
pub mod Placed
pub mod Ran
pub mod HistoryRead
