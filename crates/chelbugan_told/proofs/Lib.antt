pub mod Exits
pub mod Telling
pub mod OneTold
