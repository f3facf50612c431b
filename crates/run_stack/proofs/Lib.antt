pub mod Laws
pub mod OnTop
pub mod GoingDown
pub mod Held
pub mod Starts
