pub mod Before
pub mod Outcomes
pub mod Examples
