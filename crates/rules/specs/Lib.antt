pub mod Units
pub mod Checks
pub mod Course
pub mod Cases
pub mod Laws
pub mod Text
