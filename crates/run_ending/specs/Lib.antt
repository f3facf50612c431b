pub mod Telling
pub mod Wiping
