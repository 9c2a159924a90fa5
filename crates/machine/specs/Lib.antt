pub mod State
pub mod Effects
pub mod Laws
pub mod Marked
