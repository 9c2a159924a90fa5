pub mod Log
pub mod Rules
pub mod Words
pub mod Sample
pub mod Run
