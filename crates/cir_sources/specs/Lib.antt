pub mod Names
pub mod Places
pub mod Includes
pub mod Faults
pub mod Loading
pub mod Steps
pub mod Reaching
