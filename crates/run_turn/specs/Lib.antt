pub mod Endings
pub mod Turns
