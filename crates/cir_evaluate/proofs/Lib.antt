pub mod Steps
pub mod Parts
pub mod Turns
pub mod Calls
pub mod Literals
