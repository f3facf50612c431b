pub mod Startable
pub mod Inner
pub mod Outer
