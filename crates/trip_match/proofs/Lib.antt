pub mod NearLemmas
pub mod RouteLemmas
