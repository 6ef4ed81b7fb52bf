pub mod Wired
pub mod Describing
