pub mod Faults
pub mod Puts
pub mod Whole
