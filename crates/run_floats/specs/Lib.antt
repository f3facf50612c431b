pub mod FloatDeeds
pub mod Reals
