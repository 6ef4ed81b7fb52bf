pub mod Transform
pub mod Matrix
pub mod Refusing
pub mod Proves
