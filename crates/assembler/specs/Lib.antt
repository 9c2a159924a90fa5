pub mod Errors
pub mod Labels
pub mod Scan
pub mod Resolve
pub mod Program
pub mod Text
pub mod Preamble
