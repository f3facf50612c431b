pub mod Decoded
pub mod Named
