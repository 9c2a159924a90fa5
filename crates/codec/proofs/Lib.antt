pub mod Items
pub mod PartForm
pub mod Meant
pub mod Laws
pub mod Placed
