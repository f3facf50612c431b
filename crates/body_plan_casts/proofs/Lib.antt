pub mod Targets
pub mod Casting
