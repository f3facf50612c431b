pub mod Lowest
pub mod Tops
pub mod Moving
pub mod Open
pub mod Told
