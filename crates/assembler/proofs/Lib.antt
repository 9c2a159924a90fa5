pub mod Tables
pub mod Overlays
