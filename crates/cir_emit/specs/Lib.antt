pub mod Tasks
pub mod Reads
pub mod Lowered
pub mod Sourced
