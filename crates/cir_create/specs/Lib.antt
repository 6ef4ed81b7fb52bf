pub mod Makes
pub mod Declares
