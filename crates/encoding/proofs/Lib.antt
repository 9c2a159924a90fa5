mod Codes
pub mod Inverse
pub mod Formed
