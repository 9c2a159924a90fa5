pub mod Bytes
pub mod Payload
pub mod Forms
pub mod Fields
pub mod LittleEndian
pub mod RowForm
