pub mod Climbs
pub mod Table
