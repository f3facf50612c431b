pub mod Operands
pub mod UnderTop
