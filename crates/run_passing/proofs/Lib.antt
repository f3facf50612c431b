pub mod Choices
pub mod Passings
