pub mod Constants
pub mod Examples
