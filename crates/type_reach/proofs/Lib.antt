pub mod Naming
pub mod Walking
pub mod Small
