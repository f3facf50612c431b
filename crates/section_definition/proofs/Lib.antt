pub mod Writing
pub mod Forming
pub mod Defining
