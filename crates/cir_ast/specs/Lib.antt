pub mod Tree
pub mod Plain
pub mod Program
pub mod Print
pub mod Shape
pub mod Height
pub mod Spot
