pub mod Table
pub mod Laws
pub mod Finding
pub mod Columns
