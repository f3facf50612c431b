pub mod Lasts
pub mod Carrying
