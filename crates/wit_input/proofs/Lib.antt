pub mod Documents
pub mod Digits
pub mod Nested
pub mod Members
pub mod Steps
pub mod InputNumbers
pub mod NoObject
pub mod ReadBack
