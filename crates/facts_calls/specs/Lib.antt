pub mod Zero
pub mod Lent
pub mod Meant
pub mod Calls
pub mod Asked
