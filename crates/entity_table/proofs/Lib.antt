pub mod TableLemmas
pub mod AtOnce
