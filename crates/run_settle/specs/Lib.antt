pub mod Counts
pub mod Beyond
