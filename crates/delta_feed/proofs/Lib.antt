pub mod PairLemmas
pub mod SentLemmas
pub mod SettledLemmas
pub mod AmongLemmas
pub mod NewerLemmas
