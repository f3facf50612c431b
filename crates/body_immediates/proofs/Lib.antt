pub mod Counting
pub mod Typing
pub mod Laws
