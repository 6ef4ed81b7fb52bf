pub mod Missing
pub mod Shown
pub mod Read
pub mod Targets
