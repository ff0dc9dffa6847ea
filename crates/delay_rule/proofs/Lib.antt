pub mod Search
pub mod Ranges
pub mod PassLaw
pub mod StepLaw
pub mod NearLaw
pub mod StopsThere
