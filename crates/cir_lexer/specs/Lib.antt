pub mod Bytes
pub mod Class
pub mod Spelling
pub mod Reading
pub mod Lengths
pub mod Steps
