pub mod Needed
pub mod Signed
pub mod Laws
