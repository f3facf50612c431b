pub mod Exits
pub mod Endings
