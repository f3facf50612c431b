pub mod Heaps
pub mod Vals
pub mod Fields
