pub mod Defaults
