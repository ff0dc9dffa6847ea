mod Owners
mod Moves
