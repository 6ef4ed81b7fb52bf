pub mod SignalsRead
pub mod Numbered
pub mod Marking
pub mod Targeting
