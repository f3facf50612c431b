pub mod Pieces
pub mod Cases
pub mod Pinned
pub mod FaultCases
pub mod WithLibrary
