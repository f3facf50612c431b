pub mod Opens
pub mod Closes
pub mod Framing
