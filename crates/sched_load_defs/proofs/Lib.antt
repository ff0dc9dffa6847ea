pub mod OnFiles
pub mod Examples
pub mod FormExamples
pub mod RowExamples
mod FrequencyExamples
pub mod StopExamples
pub mod Listing
pub mod Moves
