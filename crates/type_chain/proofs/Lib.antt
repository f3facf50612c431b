pub mod Supers
pub mod Depths
