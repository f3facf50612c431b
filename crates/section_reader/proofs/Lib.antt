pub mod Feeding
pub mod Walking
pub mod Ending
pub mod Modest
pub mod LowTable
pub mod TwoRead
