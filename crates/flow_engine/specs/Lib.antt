pub mod Task
pub mod Sweep
pub mod Lent
