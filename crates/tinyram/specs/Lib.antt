pub mod Program
pub mod Words
pub mod Sample
