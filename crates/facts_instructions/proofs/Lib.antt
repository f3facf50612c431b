pub mod Reading
pub mod Exactly
pub mod Faults
pub mod InstructionFaults
pub mod Examples
