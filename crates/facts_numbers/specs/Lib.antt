pub mod Vectors
pub mod Samples
pub mod Fitting
pub mod Widths
