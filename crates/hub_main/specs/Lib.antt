pub mod Offline
pub mod Serving
