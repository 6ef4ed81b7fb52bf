pub mod Within
pub mod Literal
pub mod Parts
