pub mod Effects
pub mod Tables
pub mod Entries
pub mod Once
pub mod Said
pub mod InOrder
pub mod Turned
pub mod Among
