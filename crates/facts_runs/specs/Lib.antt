pub mod Counting
pub mod Laws
pub mod Samples
pub mod NoRoom
pub mod OtherNumeric
