pub mod Paths
pub mod Walk
pub mod Decoding
pub mod Searching
pub mod Steps
pub mod OneLoading
