pub mod Service
pub mod Zone
