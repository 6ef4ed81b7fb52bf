pub mod Width
pub mod Sizes
pub mod Sides
pub mod Layout
pub mod System
pub mod Laws
pub mod Adding
pub mod Solutions
