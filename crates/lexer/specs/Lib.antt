pub mod Classes
pub mod Tokens
pub mod Lines
