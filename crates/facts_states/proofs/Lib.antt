pub mod Standing
pub mod Words
pub mod Alike
pub mod Within
pub mod Pinned
