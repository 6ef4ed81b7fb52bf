pub mod Steps
pub mod Scope
pub mod Naming
pub mod Definitions
pub mod Answers
