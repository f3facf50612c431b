pub mod Table
pub mod Pinned
pub mod FirstFaults
pub mod WithLibrary
