pub mod Arithmetic
pub mod Cell
