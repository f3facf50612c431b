pub mod Noting
pub mod Matching
