pub mod Laws
pub mod Lists
pub mod Counts
pub mod Ordered
pub mod OrderedMap
pub mod Greatest
