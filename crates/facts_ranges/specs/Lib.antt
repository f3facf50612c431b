pub mod Tell
pub mod Example
