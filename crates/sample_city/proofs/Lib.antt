pub mod CityLemmas
