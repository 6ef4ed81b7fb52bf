pub mod Front
pub mod Combinators
pub mod Reading
pub mod Answers
pub mod Measured
