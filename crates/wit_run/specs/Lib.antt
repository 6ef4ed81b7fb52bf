pub mod Lines
pub mod Ending
pub mod Task
pub mod Batch
