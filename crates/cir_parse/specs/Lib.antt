pub mod Limits
pub mod Reading
pub mod Marking
pub mod Marks
pub mod Answers
pub mod LeftOut
pub mod Contract
