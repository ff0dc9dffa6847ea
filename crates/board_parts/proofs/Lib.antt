pub mod Lists
pub mod Appended
pub mod NextView
pub mod Overs
