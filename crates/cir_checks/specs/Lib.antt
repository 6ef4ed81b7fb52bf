pub mod Faults
pub mod Heads
pub mod Answers
pub mod Uses
pub mod Statements
pub mod Checks
pub mod Checked
