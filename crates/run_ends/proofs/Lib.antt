pub mod Codes
pub mod Notes
pub mod Balance
pub mod Chain
pub mod Filling
