pub mod Grouping
pub mod Ways
