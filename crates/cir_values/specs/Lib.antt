pub mod Names
pub mod Places
pub mod Reading
pub mod Meant
