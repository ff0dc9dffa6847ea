pub mod Offered
