pub mod Chain
pub mod Find
pub mod Lines
pub mod Rows
pub mod Worded
pub mod Sound
pub mod Complete
pub mod Tests
pub mod Along
pub mod RunSound
pub mod RunComplete
mod Each
