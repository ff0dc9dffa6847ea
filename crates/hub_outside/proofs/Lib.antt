pub mod Parts
pub mod ReadBehind
pub mod SourceBehind
pub mod Fetching
pub mod Rising
