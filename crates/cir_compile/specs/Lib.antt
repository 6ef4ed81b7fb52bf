pub mod Written
pub mod Compiled
pub mod Faults
