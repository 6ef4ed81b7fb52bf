pub mod Circuits
pub mod Meaning
pub mod OneFile
pub mod Simplified
pub mod Wires
