pub mod Short
pub mod Kept
pub mod Naming
