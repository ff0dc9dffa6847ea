pub mod MessageLemmas
pub mod LawLemmas
pub mod AgainLemmas
pub mod KeptLemmas
