pub mod Keeping
pub mod Carrying
pub mod Allocating
pub mod Controlling
pub mod Departing
pub mod Stepping
