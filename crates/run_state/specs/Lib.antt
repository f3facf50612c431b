pub mod Machines
pub mod Moved
pub mod Planned
pub mod Controlled
pub mod Written
