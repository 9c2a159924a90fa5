pub mod Taking
pub mod Laws
