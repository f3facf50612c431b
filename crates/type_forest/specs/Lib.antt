pub mod Forest
pub mod Walks
