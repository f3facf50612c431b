pub mod Written
pub mod Patterns
pub mod Tied
