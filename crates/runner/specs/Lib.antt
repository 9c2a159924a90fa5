pub mod Refused
pub mod Ending
pub mod Ran
pub mod Sofar
pub mod Filling
pub mod Going
pub mod Label
