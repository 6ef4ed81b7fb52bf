pub mod Made
pub mod Counted
pub mod Stopped
pub mod Shown
pub mod Reached
