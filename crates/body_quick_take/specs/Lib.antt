pub mod Taking
pub mod Telling
