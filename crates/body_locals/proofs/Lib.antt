pub mod Filling
pub mod OneEntry
pub mod Listing
pub mod Laws
