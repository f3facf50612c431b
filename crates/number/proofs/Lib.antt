pub mod Ranges
pub mod Wide
