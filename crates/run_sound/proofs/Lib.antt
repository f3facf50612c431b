pub mod Bounds
pub mod Astraying
pub mod Back
pub mod Sectioned
pub mod Along
pub mod Example
