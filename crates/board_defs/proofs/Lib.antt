pub mod Parts
pub mod CityBoards
pub mod LineBoards
pub mod Feeds
pub mod ViewLaws
pub mod KeyOrder
pub mod DateOrder
pub mod CityAdded
