pub mod Files
pub mod Nested
pub mod Plainly
pub mod Seen
pub mod Steps
pub mod Unnested
pub mod Whole
