pub mod Writing
pub mod Laws
pub mod Faults
pub mod InstructionFaults
