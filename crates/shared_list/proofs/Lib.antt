pub mod Middle
pub mod Places
pub mod Each
pub mod Homes
pub mod PartLemmas
mod Pieces
mod Stamped
pub mod ListLemmas
pub mod TextKeys
pub mod ChangeLaws
