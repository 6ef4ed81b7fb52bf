pub mod Assigned
pub mod Declarations
pub mod Waiting
