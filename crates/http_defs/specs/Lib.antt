pub mod Heads
pub mod Requests
pub mod Routes
pub mod Targets
pub mod Responses
