pub mod Premises
pub mod Apart
pub mod Rules
pub mod Typing
