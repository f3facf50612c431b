pub mod Rests
pub mod Hierarchies
