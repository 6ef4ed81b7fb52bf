pub mod Creations
pub mod Turns
pub mod Opened
pub mod Declarations
