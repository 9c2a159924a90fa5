pub mod Receipt
