pub mod Parts
pub mod Preparing
