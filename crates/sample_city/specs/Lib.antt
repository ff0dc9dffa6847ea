pub mod CityFeeds
