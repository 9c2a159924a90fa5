pub mod Cache
pub mod Pair
