pub mod Jumping
pub mod Outward
pub mod Labels
pub mod Branching
