pub mod Numeric
pub mod Codes
pub mod Proper
