pub mod FieldLemmas
pub mod HeadEnds
pub mod FoundLemmas
pub mod HoldLemmas
