pub mod ZoneLemmas
pub mod WorkedRows
