pub mod Arms
pub mod Turns
