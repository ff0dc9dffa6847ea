pub mod Merging
pub mod Greatests
pub mod Spread
pub mod Fusion
pub mod Apart
mod Bidding
mod Taking
pub mod Winners
mod Alike
pub mod Placed
mod Split
pub mod RowOrder
mod Stops
mod Whole
mod Rising
mod Told
mod CityBoard
