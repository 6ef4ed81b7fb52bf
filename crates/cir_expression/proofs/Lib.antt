pub mod Combinators
pub mod Front
pub mod Lists
pub mod Sound
pub mod Steps
pub mod Undo
pub mod Groups
