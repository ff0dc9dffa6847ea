pub mod Rows
pub mod Enums
pub mod Table
pub mod History
pub mod Combined
pub mod Renamed
pub mod Examples
