pub mod Lists
pub mod Coding
pub mod Counting
pub mod Forms
pub mod Ahead
