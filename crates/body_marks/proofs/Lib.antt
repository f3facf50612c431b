pub mod Setting
pub mod MarkedState
