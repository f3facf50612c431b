pub mod Bodily
pub mod Again
pub mod Ways
