pub mod Determining
pub mod Generated
pub mod Lines
pub mod Proving
pub mod RunLines
pub mod Symbols
