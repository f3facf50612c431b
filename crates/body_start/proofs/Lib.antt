pub mod Parameters
pub mod Marking
pub mod Places
pub mod Reached
pub mod Views
pub mod Whole
