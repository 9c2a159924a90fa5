pub mod Opcodes
pub mod Encoding
pub mod Formed
