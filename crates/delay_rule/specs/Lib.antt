pub mod Pass
pub mod Near
