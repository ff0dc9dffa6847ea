pub mod Rules
pub mod Values
pub mod Faults
pub mod Conf
pub mod Lines
pub mod Right
