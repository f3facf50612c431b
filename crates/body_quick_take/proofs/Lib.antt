pub mod Takings
pub mod Tellings
pub mod Asking
