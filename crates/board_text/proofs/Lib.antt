pub mod Tabs
pub mod Members
pub mod Plain
