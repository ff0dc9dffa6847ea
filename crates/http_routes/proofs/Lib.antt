pub mod TextLemmas
pub mod HeadLength
