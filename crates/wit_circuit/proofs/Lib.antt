pub mod Stops
pub mod Lines
pub mod Following
pub mod Lowered
pub mod Cutting
pub mod Telling
pub mod Coded
pub mod Making
