-- What the contract of `run` says.
pub mod Asking
pub mod Compile
pub mod Symbols
pub mod Course
pub mod Witness
pub mod Batch
pub mod Means
pub mod Reply
pub mod Run
-- What the private functions do.
pub mod Answering
pub mod Source
pub mod Running
pub mod Batching
pub mod Generate
