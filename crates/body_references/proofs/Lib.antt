pub mod Words
pub mod Doing
