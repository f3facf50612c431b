pub mod Constants
pub mod Numerics
pub mod Dropping
