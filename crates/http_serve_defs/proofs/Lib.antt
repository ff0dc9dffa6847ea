pub mod QueryLaws
mod CityResponses
