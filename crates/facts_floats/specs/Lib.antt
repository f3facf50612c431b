pub mod Halfway
pub mod Standard
pub mod Comparing
pub mod Laws
pub mod Vectors
pub mod SingleVectors
pub mod DoubleVectors
pub mod IntegerVectors
