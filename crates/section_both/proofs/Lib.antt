pub mod Opening
pub mod Joining
pub mod Viewing
