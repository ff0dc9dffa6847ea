pub mod Instants
mod Ahead
pub mod Firsts
mod DaySlots
mod DayLemmas
mod Kept
mod Others
mod Going
mod NextLeft
mod SameSlots
mod GatherLemmas
mod FlatLemmas
pub mod Laws
mod CityDepartures
