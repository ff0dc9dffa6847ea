pub mod Examples
pub mod StopLaw
