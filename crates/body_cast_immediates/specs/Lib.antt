pub mod Casting
