pub mod Guarded
pub mod Locks
