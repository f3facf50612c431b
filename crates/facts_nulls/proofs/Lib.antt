pub mod Outcomes
pub mod Kept
pub mod Same
pub mod Examples
