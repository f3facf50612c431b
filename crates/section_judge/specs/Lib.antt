pub mod Verdict
pub mod Ready
