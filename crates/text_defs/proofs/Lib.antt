pub mod DateLemmas
pub mod DateLaws
mod Examples
