mod CityAnswers
mod CityLists
