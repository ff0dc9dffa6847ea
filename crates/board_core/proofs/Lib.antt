pub mod RowOrder
pub mod FirstPart
pub mod FirstRows
pub mod AddedTrips
pub mod FeedLists
pub mod LiveFeeds
pub mod Taken
