pub mod Judging
pub mod Asking
