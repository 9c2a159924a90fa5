pub mod Run
pub mod Words
pub mod Numbers
pub mod Kept
pub mod Logged
