pub mod Layout
pub mod Held
pub mod Written
