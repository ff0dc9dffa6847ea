pub mod ReadingLemmas
pub mod AdvanceLemmas
pub mod ValueLemmas
pub mod CellLemmas
pub mod FileLemmas
pub mod AsciiLemmas
