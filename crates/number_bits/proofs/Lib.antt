pub mod Bits
pub mod OneByte
