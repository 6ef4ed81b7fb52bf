pub mod Code
pub mod Frames
pub mod Room
pub mod Seen
pub mod Table
