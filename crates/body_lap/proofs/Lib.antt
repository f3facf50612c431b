pub mod Between
pub mod OneLap
