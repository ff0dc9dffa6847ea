pub mod Ranges
pub mod Drawn
pub mod Offers
pub mod LineLaws
pub mod Told
