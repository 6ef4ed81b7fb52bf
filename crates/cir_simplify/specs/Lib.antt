pub mod Shape
pub mod Turn
pub mod Wires
pub mod Keeps
pub mod Answer
pub mod Index
