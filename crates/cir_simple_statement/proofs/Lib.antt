pub mod Declared
pub mod Seen
pub mod Steps
pub mod Undone
