pub mod Table
pub mod Renumbered
pub mod Opened
pub mod Compiled
pub mod Made
