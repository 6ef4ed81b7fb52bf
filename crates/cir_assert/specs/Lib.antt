pub mod Asserts
