pub mod Packs
pub mod Asked
