pub mod StateLayout
pub mod Laws
pub mod Pinned
