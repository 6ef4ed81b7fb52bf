pub mod Filled
pub mod Homed
pub mod Started
