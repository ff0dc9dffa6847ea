mod Ranges
mod Digits
mod Places
pub mod Known
mod RowByRow
mod Examples
