pub mod Forms
pub mod Answer
