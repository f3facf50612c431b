pub mod Bits
pub mod Exits
