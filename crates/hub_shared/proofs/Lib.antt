mod Fronts
mod Sitting
mod Taking
mod Dealt
mod Handed
mod Asking
