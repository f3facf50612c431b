pub mod Typing
pub mod Sizing
