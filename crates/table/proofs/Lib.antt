pub mod Answered
pub mod Counted
