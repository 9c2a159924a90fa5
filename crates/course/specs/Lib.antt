pub mod Numbers
pub mod Receipt
