pub mod ConfLaws
pub mod OnLiterals
mod ConfExamples
