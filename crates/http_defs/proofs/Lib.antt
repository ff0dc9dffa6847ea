pub mod RequestLaws
pub mod OnLiterals
pub mod HeadExamples
pub mod TargetExamples
pub mod ResponseExamples
